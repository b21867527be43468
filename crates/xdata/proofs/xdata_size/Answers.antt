-- By the fit and by the head; a head that is given is small, so its size fits. Assumes nothing.
use Prim.Native.Nat.{◌-◌, ◌%◌}
use mathlib.Core.Path.{sym, ap, ◌∙◌}
use native.Mathlib.Omega.{arith}
use Rattle.std.specs.Prelude.{Ok}
use Rattle.std.proofs.lemmas.Result.{err_from_is_err_and}
use Rattle.lent.specs.Lent.{lent}
use Rattle.xdata.proofs.Heads.{head_small, small-record, size-unfit, size-given, size-refused}
use Rattle.xdata.proofs.xdata_size.Goals as goal

pub returns-then-not-fit : goal.returns-then-not-fit
returns-then-not-fit c = sym (size-unfit _ _ (sym c.fit.ensures ∙ c.if-not-fit.true))

pub returns-in_err-head : goal.returns-in_err-head
returns-in_err-head c =
    let a = c.args in
    let p = err_from_is_err_and c.from_residual.result c.from_residual.ensures.1 in
    rw (p.1, p.2) (sym (size-refused (lent a.rva a.xdata.now) a.at _ (sym c.fit.ensures ∙ c.if-not-fit.false) (sym c.in_err-head.ensures)))

pub overflow_cast-result : goal.overflow_cast-result
overflow_cast-result c =
    let a = c.args in
    let x = lent a.rva a.xdata.now in
    let at = a.at - a.at % 4 in
    let h = c.in_ok-head.head in
    record { fits = omega (arith, c.record_bytes.ensures, small-record x at h (head_small x at h (sym c.in_ok-head.ensures))) }

pub returns : goal.returns
returns c =
    let a = c.args in
    ap Ok c.record_bytes.ensures
    ∙ sym (size-given (lent a.rva a.xdata.now) a.at _ (sym c.fit.ensures ∙ c.if-not-fit.false) (sym c.in_ok-head.ensures))
