-- The compare tells whether the bytes are equal, which is what `same` computes.
-- Assumes nothing.
use Rattle.lent.proofs.Same.{same-is}
use Rattle.report.proofs.marked.Goals as goal

pub returns : goal.returns
returns c = same-is _ _ _ c.same.ensures
