-- `codes::fits` meets its contract: the definition makes the code's test.
-- Assumes nothing.
use borrow.Author.Tests.{eq-eqb, ne_eqb}
use Rattle.codes.proofs.fits.Goals as goal

pub returns-then-sort-eq3 : goal.returns-then-sort-eq3
returns-then-sort-eq3 c = simp (eq-eqb _ _ c.if-sort-eq3.true)

pub returns : goal.returns
returns c = simp (ne_eqb _ _ c.if-sort-eq3.false)
