-- The count and the code words are the first word's bits. Assumes nothing.
use mathlib.Core.Path.{refl, ◌∙◌}
use Rattle.xdata.proofs.short_head.Goals as goal

pub returns : goal.returns
returns c = c.whole_record.ensures ∙ rw (c.bits.ensures.0, c.bits-2.ensures.0) refl
