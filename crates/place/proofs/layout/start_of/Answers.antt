-- By the start's kind; a difference is taken only where it is one.
-- Assumes nothing.
use native.Mathlib.Omega.{arith}
use Rattle.place.proofs.layout.start_of.Goals as goal

pub returns-then-size-span : goal.returns-then-size-span
returns-then-size-span c = (simp c.in-Ending.is, omega arith)

pub returns-else-size-span : goal.returns-else-size-span
returns-else-size-span c = (simp c.in-Ending.is (omega arith), omega arith)
