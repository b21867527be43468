-- The loop's invariant: no list r4-rX below x was this one. Assumes nothing.
use Prim.Native.Nat.{◌-◌, ◌≤◌}
use mathlib.Core.Path.{◌≡◌}
use Rattle.packed_codes.specs.PackedCodes.{up_to}
use Rattle.packed_codes.proofs.top_from.Given as goal

abbrev pub invariant-loop-x : goal.invariant-loop-x
invariant-loop-x l = (4 ≤ l.x) × (up_to 4 l.first l.list ≡ up_to (l.x-end - l.x) l.x l.list)

abbrev pub decreases-loop-x : goal.decreases-loop-x
decreases-loop-x l = l.x-end - l.x
