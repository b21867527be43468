-- `codes::vpop` meets its contract: the definition makes the code's one test.
-- Assumes nothing.
use borrow.Author.Tests.{le-leb, lt-leb}
use Rattle.codes.proofs.vpop.Goals as goal

pub returns-then-s-e : goal.returns-then-s-e
returns-then-s-e c = simp (le-leb _ _ c.if-s-e.true)

pub returns-else-s-e : goal.returns-else-s-e
returns-else-s-e c = simp (lt-leb _ _ c.if-s-e.false)
