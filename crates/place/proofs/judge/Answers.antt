-- By what reading the record came to; its code bytes, which are few, and its scope words are in the .xdata. Assumes nothing.
use mathlib.Core.Path.{sym, ap, ◌∙◌}
use Rattle.std.proofs.lemmas.Result.{err_from_is_err_and}
use Rattle.words.specs.Answer.{verdict}
use Rattle.unwinding.specs.View.{view}
use Rattle.codes.specs.Code.{size, codes_at}
use Rattle.record.specs.AsCoded.Plan.{shape_by}
use Rattle.record.proofs.Shapes.{read-inside, read-listed, read-few}
use Rattle.place.proofs.Answered.{judged-refused, judged-given}
use Rattle.place.proofs.judge.Goals as goal

pub returns-in_err-f : goal.returns-in_err-f
returns-in_err-f c =
    let a = c.args in
    let p = err_from_is_err_and c.from_residual.result c.from_residual.ensures.1 in
    rw (p.1, p.2) (judged-refused a.rva a.xdata.now a.word _ (sym c.in_err-f.ensures))

pub of-requires : goal.of-requires
of-requires c =
    let a = c.args in
    read-inside a.rva a.xdata.now a.word c.in_ok-f.f (sym c.in_ok-f.ensures)

pub judge-requires : goal.judge-requires
judge-requires c =
    let a = c.args in
    let x = a.xdata.now in
    let f = c.in_ok-f.f in
    let e = sym c.in_ok-f.ensures in
    (rw c.of.ensures (read-few a.rva x a.word f e), read-listed a.rva x a.word f e)

pub returns : goal.returns
returns c =
    let a = c.args in
    let x = a.xdata.now in
    let f = c.in_ok-f.f in
    c.judge.ensures ∙ ap (λ s. verdict (view size codes_at (shape_by f.plan s x))) c.of.ensures
    ∙ judged-given a.rva x a.word f (sym c.in_ok-f.ensures)
