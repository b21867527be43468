-- The loop's invariant: the region crosses none from the first number on exactly if it crosses none from k on. Assumes nothing.
use Prim.Native.Nat.{◌-◌}
use mathlib.Core.Path.{◌≡◌}
use Rattle.regions.specs.Region.{regions_from, clear}
use Rattle.regions.proofs.clear_of.Given as goal

abbrev pub invariant-loop-k : goal.invariant-loop-k
invariant-loop-k l = clear l.r (regions_from l.xdata l.first l.from (l.n - l.from)) ≡ clear l.r (regions_from l.xdata l.first l.k (l.n - l.k))
