-- The test is the definition's.
-- Assumes nothing.
use borrow.Author.Tests.{le-leb, lt-leb}
use Rattle.place.proofs.layout.reach_of.Goals as goal

pub returns-then-end-start : goal.returns-then-end-start
returns-then-end-start c = simp (le-leb _ _ c.if-end-start.true)

pub returns-else-end-start : goal.returns-else-end-start
returns-else-end-start c = simp (lt-leb _ _ c.if-end-start.false)
