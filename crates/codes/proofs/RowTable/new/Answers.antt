-- The table is the computed one: antt computes each entry from its row and compares it with the table.
-- Assumes nothing.
use mathlib.Core.Path.{refl}
use Rattle.codes.specs.Table.{rows, row_in}
use Rattle.codes.specs.AsCoded.Rows.{row_numbers}
use Rattle.codes.proofs.RowTable.new.Goals as goal

pub invariant_of-result : goal.invariant_of-result
unfolding rows row_in row_numbers
invariant_of-result c = refl

pub returns : goal.returns
unfolding rows row_in row_numbers
returns c = refl
