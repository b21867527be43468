-- To unfold `opened` is to unfold every definition of this crate and of those below it: for examples that compute.
use Rattle.unwinding.proofs.Opened as Below
use Rattle.codes.specs.Table.{rows, row_in}
use Rattle.codes.specs.Code.{value, take_from}

unfoldable pub opened : Unit {0}
unfolding Below.opened rows row_in value take_from
opened = tt
