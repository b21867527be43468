-- `words_listed` meets its contract. The loop's invariant: n is the words of the numbers passed. The measure is how many are left.
-- Assumes nothing.
use Prim.Native.Nat.{◌-◌, ◌≤◌}
use mathlib.Core.Path.{◌≡◌}
use Rattle.machine.specs.AsCoded.Listed.{words_listed}
use Rattle.machine.proofs.words_listed.Given as goal

abbrev pub invariant-loop-x : goal.invariant-loop-x
invariant-loop-x l = (l.x ≤ 15) × (l.n ≡ words_listed l.list l.x)

abbrev pub decreases-loop-x : goal.decreases-loop-x
decreases-loop-x l = 15 - l.x
