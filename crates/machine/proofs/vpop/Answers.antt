-- `vpop` meets its contract. The loop's invariant: the registers and SP are what the definition's vpop of the numbers passed gives. The
-- measure is how many are left. A turn's refusal is the whole vpop's.
-- Assumes nothing.
use Prim.Native.Nat.{◌+◌, ◌-◌}
use mathlib.Core.Path.{◌≡◌, sym, ap, ◌∙◌}
use native.Mathlib.Omega.{arith}
use Rattle.std.proofs.lemmas.Result.{err_from_is_err_and}
use Rattle.lent.specs.Lent.{lent}
use Rattle.machine.specs.Step.{pop_d, vpop}
use Rattle.machine.specs.AsCoded.Answers.{regs}
use Rattle.machine.proofs.Popping.{goes_on, stops, vpop-none, vpop-next, two_inside, d-word, d-refused}
use Rattle.machine.proofs.vpop.Goals as goal

pub loop-x-init : goal.loop-x-init
loop-x-init c =
    let a = c.args in
    let none : 0 ≡ a.s - a.s = omega arith in
    (omega arith, omega arith, λ r pc. rw none at (vpop-none (lent a.base a.stack.now) a.s (regs r a.sp a.lr pc a.d.now)))

pub returns-in_err-w : goal.returns-in_err-w
returns-in_err-w c r pc =
    let l = c.loop-x in
    let a = c.args in
    let k = lent a.base a.stack.now in
    let g = regs r a.sp a.lr pc a.d.now in
    let here : a.s + (l.x - a.s) ≡ l.x = omega arith in
    let h = regs r l.at a.lr pc l.d in
    let p = err_from_is_err_and c.from_residual.result c.from_residual.ensures.1 in
    let bad = d-refused k l.x r l.at a.lr pc l.d _ (sym c.in_err-w.ensures) in
    rw (p.1, p.2)
    (sym
    (stops (λ n. vpop k a.s n g) (λ n y. pop_d k (a.s + n) y) (vpop-next k a.s g) (l.x - a.s) (a.e + 1 - a.s) h _ (l.invariant.2 r pc)
    (ap (λ y. pop_d k y h) here ∙ bad) (omega arith)))

pub overflow_add-at : goal.overflow_add-at
overflow_add-at c = omega (arith, two_inside _ _ _ (sym c.in_ok-w.ensures))

pub loop-x-preserved : goal.loop-x-preserved
loop-x-preserved c =
    let l = c.loop-x in
    let a = c.args in
    let k = lent a.base a.stack.now in
    let here : a.s + (l.x - a.s) ≡ l.x = omega arith in
    let on : l.x - a.s + 1 ≡ l.x + 1 - a.s = omega arith in (
      omega arith,
      omega arith,
      λ r pc. (let g = regs r a.sp a.lr pc a.d.now in
          let h = regs r l.at a.lr pc l.d in
          let good = d-word k l.x r l.at a.lr pc l.d _ _ (sym c.in_ok-w.ensures) c.set_d.ensures in
          rw on at
          (goes_on (λ n. vpop k a.s n g) (λ n y. pop_d k (a.s + n) y) (vpop-next k a.s g) (l.x - a.s) h _ (l.invariant.2 r pc)
          (ap (λ y. pop_d k y h) here ∙ good))),
    )
