-- `run_on` meets its contract: by the code at the index it is the definition's first code and then the rest, and the count goes with it.
-- The measure is how many code bytes are left, which fall since a code that was taken has a byte.
-- Assumes nothing.
use Prim.Native.Nat.{◌-◌}
use lib.ListN.{length}
use Rattle.machine.proofs.+run_on.Given as goal

abbrev pub decreases-run_on : goal.decreases-run_on
decreases-run_on l = length l.codes.now - l.at.0
