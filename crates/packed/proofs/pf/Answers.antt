-- The bit counts where the adjustment is folded. Assumes nothing.
use mathlib.Core.Path.{sym, ◌∙◌}
use Rattle.words.proofs.Tests.{and-true, and-false}
use Rattle.packed.proofs.pf.Goals as goal

pub folded-requires : goal.folded-requires
folded-requires c = tt

pub bit-requires : goal.bit-requires
bit-requires c = tt

pub returns-then-folded : goal.returns-then-folded
returns-then-folded c = c.bit.ensures ∙ and-true _ (sym c.folded.ensures ∙ c.if-folded.true)

pub returns-else-folded : goal.returns-else-folded
returns-else-folded c = c.if-folded.false ∙ and-false _ (sym c.folded.ensures ∙ c.if-folded.false)
