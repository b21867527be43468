-- `words_listed` meets its contract. The loop's invariant: n is the words of the numbers passed. The measure is how many are left.
-- Assumes nothing.
use Prim.Native.Nat.{◌+◌}
use mathlib.Core.Path.{sym, ap, ◌∙◌}
use native.Mathlib.Numerals.{add-one}
use native.Mathlib.Omega.{arith}
use Rattle.machine.specs.AsCoded.Listed.{words_listed}
use Rattle.machine.proofs.Listed.{words-none, words-with, words-without, words-most}
use Rattle.machine.proofs.words_listed.Goals as goal
use Rattle.machine.proofs.words_listed.Goals.{then-has, else-has}

pub loop-x-init : goal.loop-x-init
loop-x-init c = (omega arith, sym (words-none _))

pub overflow_add-n : goal.overflow_add-n
overflow_add-n c =
    let l = c.loop-x in
    omega (arith, l.invariant.1, words-most c.args.list l.x)

pub loop-x-preserved : goal.loop-x-preserved
loop-x-preserved c =
    let l = c.loop-x in
    let list = c.args.list in
    let has = sym c.has.ensures in (
      omega arith,
      elim c.if-has.branch [
        | then-has w ↦ w.n-is
            ∙ ap (λ m. m + 1) l.invariant.1
            ∙ sym (words-with list l.x (has ∙ w.if-has.true))
            ∙ ap (words_listed list) (sym (add-one l.x))
        | else-has w ↦ w.n-is ∙ l.invariant.1 ∙ sym (words-without list l.x (has ∙ w.if-has.false)) ∙ ap (words_listed list) (sym (add-one l.x))
      ],
    )
