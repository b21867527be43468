-- The loop's invariant: the table is sound exactly if its regions from k on are, each held against those behind it. Assumes nothing.
use Prim.Native.Nat.{◌-◌}
use mathlib.Core.Path.{◌≡◌}
use Rattle.regions.specs.Region.{regions_from, sound}
use Rattle.regions.proofs.sound.Given as goal

abbrev pub invariant-loop-k : goal.invariant-loop-k
invariant-loop-k l = sound (regions_from l.xdata l.first 0 l.n) ≡ sound (regions_from l.xdata l.first l.k (l.n - l.k))
