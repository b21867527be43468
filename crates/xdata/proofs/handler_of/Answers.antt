-- By the test of X that the definition makes. Assumes nothing.
use Prim.Native.Nat.{◌+◌}
use mathlib.Core.Path.{sym, ap, ◌∙◌}
use Rattle.lent.specs.Lent.{lent, word_at}
use Rattle.xdata.specs.Xdata.{handler_offset}
use Rattle.words.proofs.Tests.{if-true, if-false}
use Rattle.xdata.proofs.handler_of.Goals as goal

pub returns-then-has_handler : goal.returns-then-has_handler
returns-then-has_handler c =
    let a = c.args in
    c.word_at.ensures
    ∙ ap (λ n. word_at (lent a.rva a.xdata.now) (a.at + n)) c.handler_offset.ensures.0
    ∙ if-true (word_at (lent a.rva a.xdata.now) (a.at + handler_offset a.h)) 0 (sym c.has_handler.ensures ∙ c.if-has_handler.true)

pub returns : goal.returns
returns c =
    let a = c.args in
    if-false (word_at (lent a.rva a.xdata.now) (a.at + handler_offset a.h)) 0 (sym c.has_handler.ensures ∙ c.if-has_handler.false)
