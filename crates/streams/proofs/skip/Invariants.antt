-- Each read goes into as much of the buffer as bytes are still to be passed over; a turn that gave no byte is the last one.
-- Assumes nothing.
use Prim.Native.Nat.{◌≤◌, ◌-◌}
use mathlib.Core.Path.{◌≡◌}
use lib.ListN.{length}
use Rattle.streams.proofs.skip.Given as goal

abbrev pub invariant-loop-count : goal.invariant-loop-count
invariant-loop-count g l = (length l.buf ≡ length l.initial.buf) × (l.count ≤ l.bytes)

abbrev pub decreases-loop-count : goal.decreases-loop-count
decreases-loop-count g l = l.bytes - l.count
