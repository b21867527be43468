-- `codes::code_bytes` meets its contract: antt computes each byte's entry and compares it with the table; its last three bits are the bytes.
-- Assumes nothing.
use Prim.Native.Nat.{◌≤◌, ◌%◌}
use mathlib.Core.Path.{◌≡◌}
use native.Mathlib.Omega.{arith}
use Rattle.codes.specs.Table.{rows, row_in, row_of}
use Rattle.codes.specs.AsCoded.Rows.{row_numbers}
use Rattle.codes.proofs.Rows.{row-few}
use Rattle.codes.proofs.Sorts.{entry-bytes, entry_has}
use Rattle.codes.proofs.code_bytes.Goals as goal

pub returns : goal.returns
unfolding rows row_in row_numbers
returns c =
    let b = c.args.b in
    entry_has b c.ranges.b.fits (λ n. (n % 8 ≡ (row_of b).bytes) × (1 ≤ n % 8) × (n % 8 ≤ 4))
    (entry-bytes b, omega (arith, entry-bytes b, (row-few b).some), omega (arith, entry-bytes b, (row-few b).most))
