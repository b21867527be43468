-- `codes::instruction_size` meets its contract: antt computes each byte's entry and compares it with the table; the next two bits are the
-- size.
-- Assumes nothing.
use Prim.Native.Nat.{◌≤◌, ◌/◌, ◌%◌}
use mathlib.Core.Path.{◌≡◌, ap}
use native.Mathlib.Omega.{arith}
use Rattle.words.specs.Units.{halfwords}
use Rattle.codes.specs.Table.{rows, row_in, row_of}
use Rattle.codes.specs.AsCoded.Rows.{row_numbers}
use Rattle.codes.proofs.Rows.{row-few}
use Rattle.codes.proofs.Sorts.{entry-size, entry_has}
use Rattle.codes.proofs.instruction_size.Goals as goal

pub returns : goal.returns
unfolding rows row_in row_numbers
returns c =
    let b = c.args.b in
    entry_has b c.ranges.b.fits (λ n. (halfwords (n / 8 % 4) ≡ (row_of b).size) × (n / 8 % 4 ≤ 2))
    (ap halfwords (entry-size b), omega (arith, entry-size b, (row-few b).small))
