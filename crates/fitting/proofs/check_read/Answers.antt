-- It was read, since 4 and 5 do not refuse it. Its code bytes, which are few, and its scope words are in the .xdata; the rest is its plan's.
-- Assumes nothing.
use Rattle.std.specs.Prelude.{IsOk}
use mathlib.Core.Path.{sym, ap, ◌∙◌, subst}
use Rattle.record.proofs.Shapes.{read-inside, read-listed, read-few}
use Rattle.fitting.specs.AsCoded.Passes.{plan_fitted}
use Rattle.fitting.proofs.Whole.{read-judged, fit-given}
use Rattle.fitting.proofs.check_read.Goals as goal

pub unwrap-f-requires : goal.unwrap-f-requires
unwrap-f-requires c = let a = c.args in subst IsOk (sym c.read.ensures) (read-judged a.rva a.xdata.now a.word c.requires.1)

pub of-requires : goal.of-requires
of-requires c =
    let a = c.args in
    read-inside a.rva a.xdata.now a.word c.unwrap-f.result (sym c.read.ensures ∙ c.unwrap-f.ensures)

pub check_plan-requires : goal.check_plan-requires
check_plan-requires c =
    let a = c.args in
    let x = a.xdata.now in
    let f = c.unwrap-f.result in
    let e = sym c.read.ensures ∙ c.unwrap-f.ensures in
    (rw c.of.ensures (read-few a.rva x a.word f e), read-listed a.rva x a.word f e)

pub returns : goal.returns
returns c =
    let a = c.args in
    let x = a.xdata.now in
    let f = c.unwrap-f.result in
    c.check_plan.ensures ∙ ap (λ s. plan_fitted a.code.now s f.plan x) c.of.ensures
    ∙ fit-given a.rva x a.word c.requires.1 a.code.now f (sym c.read.ensures ∙ c.unwrap-f.ensures) c.requires.0
