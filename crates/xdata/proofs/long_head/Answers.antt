-- Each return is one case of the definition by its tests. Assumes nothing.
use mathlib.Core.Bool.{true}
use mathlib.Core.Path.{◌≡◌, sym, ◌∙◌}
use Rattle.lent.specs.Lent.{lent, holds}
use Rattle.xdata.specs.AsCoded.Heads.{whole_record}
use Rattle.xdata.proofs.Heads.{long_of, long-outside, long-reserved, long-given}
use Rattle.xdata.proofs.long_head.Goals as goal

pub returns-then-not-holds : goal.returns-then-not-holds
returns-then-not-holds c =
    let a = c.args in
    sym (long-outside (lent a.rva a.xdata.now) a.at a.word (sym c.holds.ensures ∙ c.if-not-holds.true))

pub returns-then-bits-ne0 : goal.returns-then-bits-ne0
returns-then-bits-ne0 c =
    let a = c.args in
    let x = lent a.rva a.xdata.now in
    let here : holds x a.at 8 ≡ true = sym c.holds.ensures ∙ c.if-not-holds.false in
    let z = rw c.bits.ensures.0 at c.if-bits-ne0.true in
    sym (long-reserved x _ _ _ c.word_at-v.ensures here z)

pub returns : goal.returns
returns c =
    let a = c.args in
    let x = lent a.rva a.xdata.now in
    let here : holds x a.at 8 ≡ true = sym c.holds.ensures ∙ c.if-not-holds.false in
    let z = rw c.bits.ensures.0 at c.if-bits-ne0.false in
    ◌∙◌ {b = whole_record x a.at (long_of a.word c.word_at-v.result)}
    (rw (c.bits-2.ensures.0, c.bits-3.ensures.0) at c.whole_record.ensures)
    (sym (long-given x _ _ _ c.word_at-v.ensures here z))
