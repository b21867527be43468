-- `word32_bytewise` meets its contract.
-- Assumes nothing.
use native.Mathlib.Omega.{arith}
use Prim.Native.Nat.{◌+◌}
use mathlib.Core.Path.{◌≡◌}
use Rattle.lent.proofs.Laws.{byte-same}
use Rattle.lent.proofs.word32_bytewise.Goals as goal

pub returns : goal.returns
returns c =
    let a = c.args in
    let z : a.at + 0 ≡ a.at = omega arith in
    let e : a.at + 3 ≡ a.at + 2 + 1 = omega arith in
    omega (arith, byte-same a.s.now z, byte-same a.s.now e, c.byte_after.ensures, c.byte_after-2.ensures, c.byte_after-3.ensures, c.byte_after-4.ensures)
