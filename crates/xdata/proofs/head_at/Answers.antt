-- Each return is one case of the definition by its tests, which come in its order. Assumes nothing.
use mathlib.Core.Bool.{true}
use mathlib.Core.Path.{◌≡◌, sym, ◌∙◌}
use Rattle.lent.specs.Lent.{lent, holds}
use Rattle.xdata.proofs.Heads.{head-outside, head-version, head-long, head-short}
use Rattle.xdata.proofs.head_at.Goals as goal

pub returns-then-not-holds : goal.returns-then-not-holds
returns-then-not-holds c =
    let a = c.args in
    sym (head-outside (lent a.rva a.xdata.now) a.at (sym c.holds.ensures ∙ c.if-not-holds.true))

pub returns-then-bits-ne0 : goal.returns-then-bits-ne0
returns-then-bits-ne0 c =
    let a = c.args in
    let x = lent a.rva a.xdata.now in
    let here : holds x a.at 4 ≡ true = sym c.holds.ensures ∙ c.if-not-holds.false in
    let v = rw c.bits.ensures.0 at c.if-bits-ne0.true in
    sym (head-version x _ _ c.word_at-word.ensures here v)

pub returns-then-bits-eq0 : goal.returns-then-bits-eq0
returns-then-bits-eq0 c =
    let a = c.args in
    let x = lent a.rva a.xdata.now in
    let here : holds x a.at 4 ≡ true = sym c.holds.ensures ∙ c.if-not-holds.false in
    let v = rw c.bits.ensures.0 at c.if-bits-ne0.false in
    let z = rw c.bits-2.ensures.0 at c.if-bits-eq0.true in
    c.long_head.ensures ∙ sym (head-long x _ _ c.word_at-word.ensures here v z)

pub returns : goal.returns
returns c =
    let a = c.args in
    let x = lent a.rva a.xdata.now in
    let here : holds x a.at 4 ≡ true = sym c.holds.ensures ∙ c.if-not-holds.false in
    let v = rw c.bits.ensures.0 at c.if-bits-ne0.false in
    let z = rw c.bits-2.ensures.0 at c.if-bits-eq0.false in
    c.short_head.ensures ∙ sym (head-short x _ _ c.word_at-word.ensures here v z)
