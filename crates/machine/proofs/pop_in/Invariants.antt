-- `pop_in` meets its contract. The loop's invariant: the registers and SP are what the definition's pop of the numbers passed gives, and
-- the offset is behind their words. The measure is how many are left.
-- Assumes nothing.
use Rattle.std.specs.Prelude.{Ok}
use Prim.Native.Nat.{ℕ, ◌+◌, ◌-◌, ◌*◌, ◌≤◌}
use mathlib.Core.Path.{◌≡◌}
use mathlib.Core.List.{List}
use Rattle.lent.specs.Lent.{lent}
use Rattle.machine.specs.Step.{pop}
use Rattle.machine.specs.AsCoded.Answers.{regs}
use Rattle.machine.specs.AsCoded.Listed.{words_listed}
use Rattle.machine.proofs.pop_in.Given as goal

abbrev pub invariant-loop-x : goal.invariant-loop-x
invariant-loop-x l =
    (l.x ≤ 15)
    × (l.base + l.o ≡ l.sp + 4 * words_listed l.list l.x)
    × ((pc : ℕ) (d : List ℕ) → pop (lent l.base l.stack) l.list l.x (regs l.initial.r l.sp l.lr pc d) ≡ Ok (regs l.r (l.base + l.o) l.back pc d))

abbrev pub decreases-loop-x : goal.decreases-loop-x
decreases-loop-x l = 15 - l.x
