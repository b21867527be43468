-- `vpop` meets its contract. The loop's invariant: the registers and SP are what the definition's vpop of the numbers passed gives. The
-- measure is how many are left. A turn's refusal is the whole vpop's.
-- Assumes nothing.
use Rattle.std.specs.Prelude.{Ok}
use Prim.Native.Nat.{ℕ, ◌+◌, ◌-◌, ◌≤◌}
use mathlib.Core.Path.{◌≡◌}
use mathlib.Core.List.{List}
use Rattle.lent.specs.Lent.{lent}
use Rattle.machine.specs.Step.{vpop}
use Rattle.machine.specs.AsCoded.Answers.{regs}
use Rattle.machine.proofs.vpop.Given as goal

abbrev pub invariant-loop-x : goal.invariant-loop-x
invariant-loop-x l =
    (l.s ≤ l.x)
    × (l.x - l.s ≤ l.e + 1 - l.s)
    × ((r : List ℕ) (pc : ℕ) → vpop (lent l.base l.stack) l.s (l.x - l.s) (regs r l.sp l.lr pc l.initial.d) ≡ Ok (regs r l.at l.lr pc l.d))

abbrev pub decreases-loop-x : goal.decreases-loop-x
decreases-loop-x l = l.e + 1 - l.x
