-- The test of Res over the scope words decides as the definition's list does. Assumes nothing.
use Rattle.std.specs.Prelude.{Ok}
use Prim.Native.Nat.{◌+◌}
use mathlib.Core.Path.{sym, ap, ◌∙◌, ap₂}
use Rattle.xdata.specs.AsCoded.Scopes.{res_zero}
use Rattle.record.proofs.Shapes.{after-given, after-refused}
use Rattle.record.proofs.after_head.Goals as goal

pub returns-then-res_zero : goal.returns-then-res_zero
returns-then-res_zero c =
    let a = c.args in
    ap Ok c.full_of.ensures
    ∙ sym (after-given a.rva a.xdata.now a.at a.h c.requires.0 (ap₂ (λ o n. res_zero a.xdata.now (o + a.h.bytes) 0 n) (sym c.offset.ensures.0) (sym c.scope_count.ensures) ∙ sym c.res_zero.ensures ∙ c.if-res_zero.true))

pub returns : goal.returns
returns c =
    let a = c.args in
    sym (after-refused a.rva a.xdata.now a.at a.h c.requires.0 (ap₂ (λ o n. res_zero a.xdata.now (o + a.h.bytes) 0 n) (sym c.offset.ensures.0) (sym c.scope_count.ensures) ∙ sym c.res_zero.ensures ∙ c.if-res_zero.false))
