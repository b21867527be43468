-- The invariant: what the scopes that are left come to is what all come to.
-- Assumes nothing.
use Prim.Native.Nat.{◌-◌}
use mathlib.Core.Path.{◌≡◌}
use Rattle.record.specs.AsCoded.Plan.{scopes_from}
use Rattle.fitting.specs.AsCoded.Passes.{scopes_pass}
use Rattle.fitting.proofs.scopes.Given as goal

abbrev pub invariant-loop-k : goal.invariant-loop-k
invariant-loop-k l =
    scopes_pass l.code l.codes l.span (scopes_from l.plan.scopes l.xdata l.k (l.n - l.k)) ≡ scopes_pass l.code l.codes l.span (scopes_from l.plan.scopes l.xdata 0 l.n)
