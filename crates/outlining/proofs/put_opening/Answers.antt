-- By whether it is the first.
-- Assumes nothing.
use borrow.Author.Tests.{eq-eqb}
use Rattle.outlining.proofs.put_opening.Goals as goal

pub returns-then-number-eq0 : goal.returns-then-number-eq0
returns-then-number-eq0 c = rw (eq-eqb _ 0 c.if-number-eq0.true) c.put_text.ensures
