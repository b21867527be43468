-- What the pass comes to is the record's verdict. Assumes nothing.
use mathlib.Core.Path.{sym, ap, ◌∙◌}
use Rattle.std.proofs.lemmas.Result.{err_from_is_err_and}
use Rattle.words.specs.declared.Refusal.TheVariants.{BadLayout}
use Rattle.words.specs.Answer.{◌>>=◌, need}
use Rattle.record.specs.AsCoded.Plan.{shape_by}
use Rattle.place.proofs.Placing.{judged, view-passed}
use Rattle.place.proofs.layout.judge.Goals as goal

pub returns-in_err-seen : goal.returns-in_err-seen
returns-in_err-seen c =
    let a = c.args in
    let p = err_from_is_err_and c.from_residual.result c.from_residual.ensures.1 in
    rw (p.1, p.2)
    (ap (λ x. x >>= λ seen. need seen.fits BadLayout) (sym c.in_err-seen.was) ∙ ap judged c.pass-q.ensures ∙ view-passed (shape_by a.plan a.codes.now a.xdata.now) 0)

pub returns-then-seen : goal.returns-then-seen
returns-then-seen c =
    let a = c.args in
    ap (λ b. need b BadLayout) (sym c.if-seen.true) ∙ ap (λ x. x >>= λ seen. need seen.fits BadLayout) (sym c.in_ok-seen.was) ∙ ap judged c.pass-q.ensures
    ∙ view-passed (shape_by a.plan a.codes.now a.xdata.now) 0

pub returns-else-seen : goal.returns-else-seen
returns-else-seen c =
    let a = c.args in
    ap (λ b. need b BadLayout) (sym c.if-seen.false) ∙ ap (λ x. x >>= λ seen. need seen.fits BadLayout) (sym c.in_ok-seen.was) ∙ ap judged c.pass-q.ensures
    ∙ view-passed (shape_by a.plan a.codes.now a.xdata.now) 0
