-- By the test of E that the definition makes. Assumes nothing.
use mathlib.Core.Path.{sym, ◌∙◌}
use Rattle.words.proofs.Tests.{if-true, if-false}
use Rattle.record.proofs.epilogues.Goals as goal

pub returns-then-has_last : goal.returns-then-has_last
returns-then-has_last c =
    let h = c.args.h in
    if-true 1 h.count (sym c.has_last.ensures ∙ c.if-has_last.true)

pub returns : goal.returns
returns c =
    let h = c.args.h in
    if-false 1 h.count (sym c.has_last.ensures ∙ c.if-has_last.false)
