-- The invariant: what is left to look at, from what was seen, comes to what the whole does from the start, and the size
-- kept is that of the list at its index.
-- Assumes nothing.
use Rattle.std.specs.Prelude.{Ok}
use Prim.Native.Nat.{◌-◌, ◌<◌}
use mathlib.Core.Path.{◌≡◌}
use Rattle.codes.specs.Code.{codes_at}
use Rattle.record.specs.AsCoded.Plan.{scopes_from}
use Rattle.place.specs.AsCoded.Look.{measured, look_from}
use Rattle.place.proofs.layout.look.Given as goal

abbrev pub invariant-loop-k : goal.invariant-loop-k
invariant-loop-k l =
    (look_from l.codes l.span l.o l.k l.s (scopes_from l.plan.scopes l.xdata l.k (l.n - l.k)) ≡ look_from l.codes l.span l.o 0 l.initial.s (scopes_from l.plan.scopes l.xdata 0 l.n)) × (measured (codes_at l.codes l.at) ≡ Ok l.size) × (l.size < 8192)
