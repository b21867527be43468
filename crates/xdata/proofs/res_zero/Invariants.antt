-- The loop's invariant: all scope words have Res 0 exactly if those from k on do. Assumes nothing.
use Prim.Native.Nat.{◌-◌}
use mathlib.Core.Path.{◌≡◌}
use Rattle.xdata.specs.AsCoded.Scopes.{res_zero}
use Rattle.xdata.proofs.res_zero.Given as goal

abbrev pub invariant-loop-k : goal.invariant-loop-k
invariant-loop-k l = res_zero l.xdata l.at 0 l.n ≡ res_zero l.xdata l.at l.k (l.n - l.k)
