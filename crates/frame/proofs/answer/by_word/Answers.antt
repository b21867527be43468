-- The code bytes of the record found lie in the .xdata where they are a part of it.
-- Assumes nothing.
use Rattle.std.specs.Prelude.{Ok}
use mathlib.Core.Path.{sym, ap, ◌∙◌}
use Rattle.std.proofs.lemmas.Result.{err_from_is_err_and}
use Rattle.lent.specs.Lent.{lent}
use Rattle.words.specs.Answer.{◌>>=◌}
use Rattle.record.specs.AsCoded.Plan.{codes_in}
use Rattle.machine.specs.AsCoded.Answers.{regs}
use Rattle.frame.specs.AsCoded.FromPlace.{ran_from, from_placed}
use Rattle.frame.proofs.Records.{from, codes-inside, word-placed}
use Rattle.frame.proofs.answer.by_word.Goals as goal

pub returns-in_err-p : goal.returns-in_err-p
returns-in_err-p c =
    let a = c.args in
    let p = err_from_is_err_and c.from_residual.result c.from_residual.ensures.1 in
    λ pc.
    let k = lent a.base a.stack.now in
    let g = regs a.r.now a.sp a.lr pc a.d.now in
    rw (p.1, p.2) (ap (λ x. x >>= from a.first k g a.o a.xdata.now) c.in_err-p.ensures ∙ word-placed a.first k g a.o a.xdata.now a.rva a.word)

pub of-requires : goal.of-requires
of-requires c =
    let a = c.args in
    codes-inside a.rva a.xdata.now a.word a.o c.in_ok-p.p c.in_ok-p.ensures

pub returns-in_err-at : goal.returns-in_err-at
returns-in_err-at c =
    let a = c.args in
    let p = err_from_is_err_and c.from_residual-in_err-at.result c.from_residual-in_err-at.ensures.1 in
    λ pc.
    let k = lent a.base a.stack.now in
    let g = regs a.r.now a.sp a.lr pc a.d.now in
    rw (p.1, p.2)
    (ap (λ x. x >>= from_placed a.first k (codes_in c.in_ok-p.p.codes a.xdata.now) g) (sym c.in_err-at.was)
    ∙ ap (λ x. x >>= from a.first k g a.o a.xdata.now) c.in_ok-p.ensures
    ∙ word-placed a.first k g a.o a.xdata.now a.rva a.word)

pub returns-in-Some : goal.returns-in-Some
returns-in-Some c =
    let a = c.args in
    let at = c.in-Some.at in
    λ pc.
    let k = lent a.base a.stack.now in
    let g = regs a.r.now a.sp a.lr pc a.d.now in
    c.ran_from.ensures pc ∙ ap (λ s. ran_from k s at.handler g at.place at.index) c.of.ensures
    ∙ ap (λ x. x >>= from_placed a.first k (codes_in c.in_ok-p.p.codes a.xdata.now) g) (sym (c.in_ok-at.was ∙ ap Ok c.in-Some.is))
    ∙ ap (λ x. x >>= from a.first k g a.o a.xdata.now) c.in_ok-p.ensures
    ∙ word-placed a.first k g a.o a.xdata.now a.rva a.word

pub returns-in-None : goal.returns-in-None
returns-in-None c =
    let a = c.args in
    λ pc.
    let k = lent a.base a.stack.now in
    let g = regs a.r.now a.sp a.lr pc a.d.now in
    c.uncovered.ensures _ _ pc
    ∙ ap (λ x. x >>= from_placed a.first k (codes_in c.in_ok-p.p.codes a.xdata.now) g) (sym (c.in_ok-at.was ∙ ap Ok c.in-None.is))
    ∙ ap (λ x. x >>= from a.first k g a.o a.xdata.now) c.in_ok-p.ensures
    ∙ word-placed a.first k g a.o a.xdata.now a.rva a.word
