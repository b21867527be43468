-- `pop_in` meets its contract. The loop's invariant: the registers and SP are what the definition's pop of the numbers passed gives, and
-- the offset is behind their words. The measure is how many are left.
-- Assumes nothing.
use Rattle.std.specs.Prelude.{Ok}
use Prim.Native.Nat.{ℕ, ◌+◌, ◌-◌, ◌*◌, ◌<◌, ◌≤◌}
use mathlib.Core.Path.{◌≡◌, sym, ap, ◌∙◌}
use mathlib.Core.Bool.{true}
use mathlib.Core.List.{List}
use lib.ListN.{length}
use native.Mathlib.Numerals.{add-one}
use native.Mathlib.Omega.{arith}
use Rattle.words.specs.Bits.{bit}
use Rattle.lent.specs.Lent.{lent, holds}
use Rattle.machine.specs.Step.{pop}
use Rattle.machine.specs.AsCoded.Answers.{regs}
use Rattle.machine.specs.AsCoded.Listed.{words_listed}
use Rattle.machine.proofs.Loading.{held, load_at}
use Rattle.machine.proofs.Listed.{words-none, words-with, words-without, words-within}
use Rattle.machine.proofs.Popping.{goes_on, listed, listed-word, listed-not, pop-none, pop_next}
use Rattle.machine.proofs.pop_in.Goals as goal
use Rattle.machine.proofs.pop_in.Goals.{Joined-has, then-has, else-has}

-- the words of the whole list are lent, so that of a register listed is
there :
    (base : ℕ) (s : List ℕ) (list sp o x : ℕ) → holds (lent base s) sp (4 * words_listed list 15) ≡ true → bit x list ≡ true → x < 15
    → base + o ≡ sp + 4 * words_listed list x → o + 4 ≤ length s
there base s list sp o x h b n e =
    let within = words-within list x 15 b n in
    omega (arith, held (lent base s) sp (4 * words_listed list 15) h, within, e)

-- what a turn came to
turned :
    (c : Joined-has) (pc : ℕ) (d : List ℕ)
    → listed (lent c.args.base c.args.stack.now) c.args.list c.loop-x.x
    (regs c.loop-x.r (c.args.base + c.loop-x.o) c.loop-x.back pc d)
    ≡ Ok (regs c.if-has.r (c.args.base + c.if-has.o) c.if-has.back pc d)
turned c pc d =
    let l = c.loop-x in
    let a = c.args in
    let k = lent a.base a.stack.now in
    let has = sym c.has.ensures in
    elim c.if-has.branch [
      | then-has w ↦ listed-word k a.list l.x l.r (a.base + l.o) l.back pc d _ _ _ _ (has ∙ w.if-has.true)
          (load_at a.base a.stack.now l.o (there a.base a.stack.now a.list a.sp l.o l.x c.requires (has ∙ w.if-has.true) (omega arith) l.invariant.1) ∙ ap Ok (sym w.word32_in.ensures))
          (w.r-is ∙ w.set_reg-back.ensures.1) (omega (arith, w.o-is)) (w.back-is ∙ w.set_reg-back.ensures.0)
      | else-has w ↦ listed-not k a.list l.x l.r (a.base + l.o) l.back pc d _ _ _ (has ∙ w.if-has.false) w.r-is
          (ap (λ o. a.base + o) w.o-is) w.back-is
    ]

-- how far it came
passed : (c : Joined-has) → c.args.base + c.if-has.o ≡ c.args.sp + 4 * words_listed c.args.list (c.loop-x.x + 1)
passed c =
    let l = c.loop-x in
    let a = c.args in
    let has = sym c.has.ensures in
    rw (add-one l.x)
    (elim c.if-has.branch [
      | then-has w ↦ omega (arith, w.o-is, l.invariant.1, words-with a.list l.x (has ∙ w.if-has.true))
      | else-has w ↦ omega (arith, w.o-is, l.invariant.1, words-without a.list l.x (has ∙ w.if-has.false))
    ])

pub loop-x-init : goal.loop-x-init
loop-x-init c =
    let a = c.args in
    let inside = held (lent a.base a.stack.now) a.sp (4 * words_listed a.list 15) c.requires in
    let at : a.base + (a.sp - a.base) ≡ a.sp = omega (arith, inside) in
    (omega arith, omega (arith, at, words-none a.list), λ pc d. rw at (pop-none _ _ _))

pub word32_in-requires : goal.word32_in-requires
word32_in-requires c = there _ _ c.args.list c.args.sp _ c.loop-x.x c.requires (sym c.has.ensures ∙ c.if-has.true) (omega arith) c.loop-x.invariant.1

pub overflow_add-o : goal.overflow_add-o
overflow_add-o c =
    let inside = there _ c.args.stack.now c.args.list c.args.sp _ c.loop-x.x c.requires (sym c.has.ensures ∙ c.if-has.true) (omega arith) c.loop-x.invariant.1 in
    omega (arith, inside, c.well_formed)

pub loop-x-preserved : goal.loop-x-preserved
loop-x-preserved c =
    let l = c.loop-x in
    let a = c.args in
    let k = lent a.base a.stack.now in
    let g : ℕ → List ℕ → _ = λ pc d. regs a.r.now a.sp a.lr pc d in (
      omega arith,
      passed c,
      λ pc d. goes_on (λ n. pop k a.list n (g pc d)) (listed k a.list) (pop_next k a.list (g pc d)) l.x (regs l.r (a.base + l.o) l.back pc d) _
          (l.invariant.2 pc d) (turned c pc d),
    )
