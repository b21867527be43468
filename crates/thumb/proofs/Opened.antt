-- To unfold `opened` is to unfold every definition of this crate: for examples that compute.
use Rattle.thumb.specs.Immediate.{expanded}
use Rattle.thumb.specs.Rows.{count, rows16, rows_more, rows32, action_in}
use Rattle.thumb.specs.Instruction.{instruction_at}

unfoldable pub opened : Unit {0}
unfolding expanded count rows16 rows_more rows32 action_in instruction_at
opened = tt
