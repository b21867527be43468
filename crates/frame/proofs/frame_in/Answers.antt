-- Where the checks pass, what is found by them is what the definition finds; else 1.
-- Assumes nothing.
use mathlib.Core.Path.{◌≡◌, sym, ap, ◌∙◌}
use Rattle.machine.specs.AsCoded.Answers.{regs}
use Rattle.pdata.specs.declared.Checked.{Checked}
use Rattle.pdata.specs.Pdata.{checked}
use Rattle.frame.specs.Frame.{inputs, after_find}
use Rattle.frame.proofs.Finding.{frame-unfit, frame-fit}
use Rattle.frame.proofs.frame_in.Goals as goal

pub returns-then-c : goal.returns-then-c
returns-then-c c =
    let f = c.before.before.before in
    let z = f.before.before.before.before.before in
    let a = z.args in
    λ h.
    let t = inputs a.image a.pdata.now a.rva a.xdata.now a.base a.stack.now in
    let g = regs a.r.now a.sp a.lr a.pc a.d.now in
    let w = frame-fit a.first t g (sym (ap (λ x. x.fit) h) ∙ f.if-c.true) in
    let s : ◌≡◌ {A = Checked} a.c (checked a.pdata.now) =
    λ i. record { fit = (f.if-c.true ∙ sym w.1) i; sorted = ap (λ x. x.sorted) h i } in
    c.after_find.ensures a.pdata.now ∙ ap (after_find a.first t g) (f.find_in-found.ensures s) ∙ sym w.0

pub returns : goal.returns
returns c =
    let z = c.before.before.before.before.before in
    let a = z.args in
    λ h.
    let t = inputs a.image a.pdata.now a.rva a.xdata.now a.base a.stack.now in
    let g = regs a.r.now a.sp a.lr a.pc a.d.now in
    sym (frame-unfit a.first t g (sym (ap (λ x. x.fit) h) ∙ c.if-c.false))
