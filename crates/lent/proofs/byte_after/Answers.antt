-- `byte_after` meets its contract: a place past the end has no byte.
-- Assumes nothing.
use native.Mathlib.Omega.{arith}
use Prim.Native.Nat.{◌+◌}
use mathlib.Core.Path.{sym}
use lib.ListN.{get_or-eq_default}
use Rattle.lent.proofs.byte_after.Goals as goal

pub returns-then-s-at : goal.returns-then-s-at
returns-then-s-at c = let a = c.args in (sym (get_or-eq_default a.s.now 0 {n = a.at + a.k} (omega arith)), omega arith)

pub returns-then-s-at-2 : goal.returns-then-s-at-2
returns-then-s-at-2 c = let a = c.args in (sym (get_or-eq_default a.s.now 0 {n = a.at + a.k} (omega arith)), omega arith)
