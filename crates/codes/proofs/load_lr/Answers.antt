-- `codes::load_lr` meets its contract: the definition makes the code's one test.
-- Assumes nothing.
use borrow.Author.Tests.{eq-eqb, ne_eqb}
use Rattle.codes.proofs.load_lr.Goals as goal

pub returns-then-high-eq0 : goal.returns-then-high-eq0
returns-then-high-eq0 c = simp (eq-eqb _ _ c.if-high-eq0.true)

pub returns-else-high-eq0 : goal.returns-else-high-eq0
returns-else-high-eq0 c = simp (ne_eqb _ _ c.if-high-eq0.false)
