-- `room` meets its contract: a list has at most 15 words.
-- Assumes nothing.
use Prim.Native.Nat.{◌*◌}
use mathlib.Core.Path.{sym, ◌∙◌}
use native.Mathlib.Omega.{arith}
use Rattle.lent.specs.Lent.{lent}
use Rattle.machine.specs.AsCoded.Listed.{words_listed}
use Rattle.machine.proofs.Loading.{held, holding}
use Rattle.machine.proofs.Listed.{words-most}
use Rattle.machine.proofs.room.Goals as goal

pub overflow_mul-words_listed : goal.overflow_mul-words_listed
overflow_mul-words_listed c = omega (arith, c.words_listed.ensures, words-most c.args.list 15)

pub returns-then-holds : goal.returns-then-holds
returns-then-holds c =
    let a = c.args in
    let k = lent a.base a.stack.now in
    let n = 4 * words_listed a.list 15 in
    let h = held k a.sp 60 (sym c.holds.ensures ∙ c.if-holds.true) in
    c.if-holds.true ∙ sym (holding k a.sp n h.0 (omega (arith, h.1, words-most a.list 15)))
