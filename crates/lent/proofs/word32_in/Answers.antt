-- `word32_in` meets its contract: four bytes make the word.
-- Assumes nothing.
use native.Mathlib.Omega.{arith}
use Prim.Native.Nat.{◌+◌}
use mathlib.Core.Path.{◌≡◌}
use Rattle.lent.proofs.Laws.{byte-same}
use Rattle.lent.proofs.word32_in.Goals as goal

pub returns : goal.returns
returns c =
    let a = c.args in
    let e : a.i + 3 ≡ a.i + 2 + 1 = omega arith in
    omega (arith, byte-same a.s.now e, c.byte_in.ensures, c.byte_in-2.ensures, c.byte_in-3.ensures, c.byte_in-4.ensures)
