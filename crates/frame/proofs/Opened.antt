-- To unfold `opened` is to unfold every definition of this crate and of those below it: for examples that compute.
use Rattle.machine.proofs.Opened as Machine
use Rattle.record.proofs.Opened as Tables
use Rattle.frame.specs.Frame.{within, by_record, frame_of}

unfoldable pub opened : Unit {0}
unfolding Machine.opened Tables.opened within by_record frame_of
opened = tt
