-- By what was taken. Assumes nothing.
use mathlib.Core.Path.{sym, ap, ◌∙◌}
use Rattle.comparing.proofs.Passing.{last_by, last_taken}
use Rattle.comparing.proofs.returns_at.Goals as goal

pub returns-in-One : goal.returns-in-One
returns-in-One c = sym (last_taken _ _ ∙ ap last_by (sym c.size_at.ensures ∙ c.in-One.is))

pub returns-in-Last : goal.returns-in-Last
returns-in-Last c = sym (last_taken _ _ ∙ ap last_by (sym c.size_at.ensures ∙ c.in-Last.is))

pub returns-in-Bad : goal.returns-in-Bad
returns-in-Bad c = sym (last_taken _ _ ∙ ap last_by (sym c.size_at.ensures ∙ c.in-Bad.is))
