-- The loop's invariant: the registers below `i` are right.
-- Assumes nothing.
use Prim.Native.Nat.{ℕ, ◌+◌, ◌*◌, ◌<◌}
use mathlib.Core.Path.{◌≡◌}
use lib.ListN.{length, get_or}
use Rattle.lent.specs.Little.{word64}
use Rattle.report.proofs.doubles.Given as goal

abbrev pub invariant-loop-i : goal.invariant-loop-i
invariant-loop-i l =
    (length l.d ≡ 32) × ((k : ℕ) → k < l.i → get_or l.d k 0 ≡ word64 l.file (96 + 8 * k))
