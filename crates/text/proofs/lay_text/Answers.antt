-- The bytes that were copied stand where the text is laid.
-- Assumes nothing.
use Rattle.text.proofs.Overlaid.{overlay-copied}
use Rattle.text.proofs.lay_text.Goals as goal

pub returns : goal.returns
returns c = let a = c.args in rw c.copy_from_slice.ensures.after (overlay-copied a.out.now a.at a.s.now c.requires)
