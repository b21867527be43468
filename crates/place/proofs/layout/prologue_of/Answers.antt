-- By the flag.
-- Assumes nothing.
use Rattle.place.proofs.layout.prologue_of.Goals as goal

pub returns-then-fragment : goal.returns-then-fragment
returns-then-fragment c = simp c.if-fragment.true

pub returns-else-fragment : goal.returns-else-fragment
returns-else-fragment c = simp (c.if-fragment.false, c.bytes_of.ensures)
