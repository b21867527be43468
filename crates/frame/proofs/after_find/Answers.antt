-- By the record found, where SP stands.
-- Assumes nothing.
use mathlib.Core.Path.{◌≡◌, sym, ap, ◌∙◌}
use Rattle.std.specs.Prelude.{Option, Some, Ok}
use Rattle.words.specs.Answer.{Res}
use Rattle.pdata.specs.declared.Entry.{Entry}
use Rattle.machine.specs.AsCoded.Answers.{regs}
use Rattle.frame.specs.Frame.{inputs}
use Rattle.frame.proofs.Finding.{after-record}
use Rattle.frame.proofs.after_find.Goals as goal

pub returns-then-stands-2 : goal.returns-then-stands-2
returns-then-stands-2 c =
    let a = c.args in
    λ p.
    let t = inputs a.image p a.rva a.xdata.now a.base a.stack.now in
    let g = regs a.r.now a.sp a.lr a.pc a.d.now in
    let q : ◌≡◌ {A = Res (Option Entry)} a.found (Ok (Some c.in-Ok-Some.e)) =
    c.in-Ok-Some.is ∙ ap Ok (rw c.in-Ok-Some.is at c.in-Ok-Some.field-0-is) in
    c.by_word.ensures a.pc ∙ sym (after-record a.first t g a.found _ c.offset_of-o.result q (sym c.stands-in-Ok-Some.ensures ∙ c.if-stands-2.true) c.offset_of-o.ensures)
