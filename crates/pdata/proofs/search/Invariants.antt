-- The loop's invariant: the record below `low` starts at or below the RVA, and that at `high` above it; where the two meet, an ascending table
-- has the definition's record there. Assumes nothing.
use Prim.Native.Nat.{◌-◌, ◌/◌, ◌≤◌, ◌<◌}
use lib.ListN.{length}
use Rattle.pdata.proofs.Finding.{start_at}
use Rattle.pdata.proofs.search.Given as goal

abbrev pub invariant-loop-low : goal.invariant-loop-low
invariant-loop-low l = (l.low ≤ l.high) × (l.high ≤ length l.pdata / 8) × (0 < l.low → start_at l.pdata (l.low - 1) ≤ l.rva) × (l.high < length l.pdata / 8 → l.rva < start_at l.pdata l.high)

abbrev pub decreases-loop-low : goal.decreases-loop-low
decreases-loop-low l = l.high - l.low
