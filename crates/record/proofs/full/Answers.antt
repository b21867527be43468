-- By the head; a head that is given stands in the .xdata with its scopes. Assumes nothing.
use mathlib.Core.Path.{sym, ap, ◌∙◌}
use Rattle.std.proofs.lemmas.Result.{err_from_is_err_and}
use Rattle.words.specs.Answer.{◌>>=◌}
use Rattle.lent.specs.Lent.{lent}
use Rattle.record.specs.AsCoded.Plan.{after_head, full_plan}
use Rattle.record.proofs.Shapes.{head-lent}
use Rattle.record.proofs.full.Goals as goal

pub returns-in_err-head : goal.returns-in_err-head
unfolding full_plan
returns-in_err-head c =
    let a = c.args in
    let p = err_from_is_err_and c.from_residual.result c.from_residual.ensures.1 in
    rw (p.1, p.2) (ap (λ r. r >>= after_head (lent a.rva a.xdata.now) a.at) c.in_err-head.ensures)

pub after_head-requires : goal.after_head-requires
after_head-requires c =
    let a = c.args in
    head-lent (lent a.rva a.xdata.now) a.at _ (sym c.in_ok-head.ensures)

pub returns : goal.returns
unfolding full_plan
returns c =
    let a = c.args in
    c.after_head.ensures ∙ ap (λ r. r >>= after_head (lent a.rva a.xdata.now) a.at) c.in_ok-head.ensures
