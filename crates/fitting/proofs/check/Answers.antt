-- By the tests in their order. Assumes nothing.
use Rattle.std.proofs.lemmas.Result.{err_from_is_err_and}
use mathlib.Core.Path.{sym, ◌∙◌}
use Rattle.fitting.proofs.Whole.{fit-unfit, fit_refused}
use Rattle.fitting.proofs.check.Goals as goal

pub returns-then-not-fit : goal.returns-then-not-fit
returns-then-not-fit c = fit-unfit _ _ _ (sym c.fit.ensures ∙ c.if-not-fit.true)

pub returns-in_err-judge : goal.returns-in_err-judge
returns-in_err-judge c =
    let p = err_from_is_err_and c.from_residual.result c.from_residual.ensures.1 in
    rw (p.1, p.2) (fit_refused _ _ _ _ (sym c.fit.ensures ∙ c.if-not-fit.false) (sym c.judge.ensures ∙ c.in_err-judge.was))
