-- The loop's invariant: n is how many of the registers passed are in the list.
-- Assumes nothing.
use Prim.Native.Nat.{◌≤◌}
use mathlib.Core.Path.{◌≡◌}
use Rattle.thumb.specs.Rows.{count}
use Rattle.thumb.proofs.count.Given as goal

abbrev pub invariant-loop-i : goal.invariant-loop-i
invariant-loop-i l = (l.n ≤ l.i) × (l.n ≡ count l.list l.i)
