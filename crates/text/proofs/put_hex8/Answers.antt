-- Where there is room, the digits are laid.
-- Assumes nothing.
use Prim.Native.Nat.{◌+◌, ◌≤◌}
use lib.ListN.{length}
use native.Mathlib.Omega.{arith}
use borrow.Author.Tests.{leb-true}
use Rattle.text.proofs.put_hex8.Goals as goal

pub lay_hex8-requires : goal.lay_hex8-requires
lay_hex8-requires c =
    let a = c.args in
    let h : a.at + 8 ≤ length a.out.now = omega (arith, leb-true) in
    h
