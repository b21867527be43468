-- By the two tests that the definition joins. Assumes nothing.
use mathlib.Core.Path.{refl}
use borrow.Author.Tests.{eq-eqb, ne_eqb}
use Rattle.words.proofs.Tests.{and-true}
use Rattle.xdata.proofs.fit.Goals as goal

pub returns-then-rva-eq0 : goal.returns-then-rva-eq0
returns-then-rva-eq0 c = and-true _ (eq-eqb _ _ c.if-rva-eq0.true)

pub returns-else-rva-eq0 : goal.returns-else-rva-eq0
returns-else-rva-eq0 c = rw (ne_eqb _ _ c.if-rva-eq0.false) refl
