-- The one overlaps the other, or the other the one. Assumes nothing.
use mathlib.Core.Path.{sym, ◌∙◌}
use Rattle.words.proofs.Tests.{or-true, or-false}
use Rattle.regions.proofs.cross.Goals as goal

pub returns-then-overlaps : goal.returns-then-overlaps
returns-then-overlaps c = c.if-overlaps.true ∙ or-true _ (sym c.overlaps.ensures ∙ c.if-overlaps.true)

pub returns-else-overlaps : goal.returns-else-overlaps
returns-else-overlaps c = c.overlaps-else-overlaps.ensures ∙ or-false _ (sym c.overlaps.ensures ∙ c.if-overlaps.false)
