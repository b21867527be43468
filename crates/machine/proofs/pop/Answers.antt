-- `pop` meets its contract: where the list's words are lent they are popped, and else a list that has one is refused.
-- Assumes nothing.
use mathlib.Core.Path.{sym, ◌∙◌}
use native.Mathlib.Omega.{arith}
use Rattle.lent.specs.Lent.{lent}
use Rattle.machine.specs.AsCoded.Answers.{regs}
use Rattle.machine.proofs.Listed.{pop-short, pop-nothing}
use Rattle.machine.proofs.pop.Goals as goal

pub returns-then-words_listed-eq0 : goal.returns-then-words_listed-eq0
returns-then-words_listed-eq0 c pc d =
    let a = c.args in
    let g = regs a.r.now a.sp a.lr pc d in
    sym (pop-nothing (lent a.base a.stack.now) a.list g 15 (sym c.words_listed.ensures ∙ c.if-words_listed-eq0.true))

pub returns : goal.returns
returns c pc d =
    let a = c.args in
    let g = regs a.r.now a.sp a.lr pc d in
    let none = sym c.room.ensures ∙ c.if-room.false in
    sym (pop-short (lent a.base a.stack.now) a.list g 15 none (omega (arith, c.words_listed.ensures, c.if-words_listed-eq0.false)))
