-- To unfold `opened` is to unfold every definition of this crate and of those below it: for examples that compute.
use Rattle.unwinding.specs.Trail.{next_frame, walk_from}
use Rattle.unwinding.specs.AsCoded.Turn.{turn_of}
use Rattle.frame.proofs.Opened as Below

unfoldable pub opened : Unit {0}
unfolding Below.opened next_frame walk_from turn_of
opened = tt
