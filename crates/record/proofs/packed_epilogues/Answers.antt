-- By the test of Ret that the definition makes. Assumes nothing.
use borrow.Author.Tests.{eq-eqb, ne_eqb}
use Rattle.words.proofs.Tests.{if-true, if-false}
use Rattle.record.proofs.packed_epilogues.Goals as goal

pub returns-then-ret-eq3 : goal.returns-then-ret-eq3
returns-then-ret-eq3 c = if-true 0 1 (eq-eqb _ _ c.if-ret-eq3.true)

pub returns : goal.returns
returns c = if-false 0 1 (ne_eqb _ _ c.if-ret-eq3.false)
