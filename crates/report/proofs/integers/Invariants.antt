-- The loop's invariant: the registers below `i` are right.
-- Assumes nothing.
use Prim.Native.Nat.{ℕ, ◌+◌, ◌*◌, ◌<◌}
use mathlib.Core.Path.{◌≡◌}
use lib.ListN.{length, get_or}
use Rattle.lent.specs.Little.{word32}
use Rattle.report.proofs.integers.Given as goal

abbrev pub invariant-loop-i : goal.invariant-loop-i
invariant-loop-i l =
    (length l.r ≡ 13) × ((k : ℕ) → k < l.i → get_or l.r k 0 ≡ word32 l.file (32 + 4 * k))
