-- The loop's invariant: the digits above i places are laid.
-- Assumes nothing.
use Prim.Native.Nat.{◌-◌, ◌*◌, ◌/◌, ◌^◌, ◌≤◌}
use mathlib.Core.List.{[]}
use Rattle.text.specs.Text.{digits}
use Rattle.text.specs.Overlay.{Laid}
use Rattle.text.proofs.put_hex.Given as goal

abbrev pub invariant-loop-i : goal.invariant-loop-i
invariant-loop-i l = (l.i ≤ l.n) × (l.n ≤ 16) × Laid l.initial.out l.at (digits 16 (l.n - l.i) (l.value / 2 ^ (4 * l.i)) []) l.next l.out
