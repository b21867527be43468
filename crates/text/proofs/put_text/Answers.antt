-- A text that has room needs no test of each byte.
-- Assumes nothing.
use Prim.Native.Nat.{◌+◌, ◌≤◌}
use lib.ListN.{length}
use native.Mathlib.Omega.{arith}
use borrow.Author.Tests.{leb-true}
use Rattle.text.proofs.put_text.Goals as goal

pub lay_text-requires : goal.lay_text-requires
lay_text-requires c =
    let a = c.args in
    let h : a.at + length a.s.now ≤ length a.out.now = omega (arith, leb-true) in
    h
