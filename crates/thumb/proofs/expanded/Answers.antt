-- A byte that is repeated, and one that is shifted, fit a word: the shift is 24 at most. Assumes nothing.
use Prim.Native.Nat.{◌+◌, ◌-◌, ◌^◌, ◌≤◌}
use mathlib.Core.Path.{sym, ◌∙◌}
use lib.Dec.{lit<}
use native.Mathlib.Omega.{arith}
use native.Mathlib.Nat.{mul-le-mul, pow-le-pow_right}
use borrow.Author.Tests.{eqb-false}
use Rattle.words.specs.Bits.{bits}
use Rattle.words.proofs.Tests.{if-true, if-false}
use Rattle.words.proofs.Powers.{shifted}
use Rattle.thumb.specs.Immediate.{expanded}
use Rattle.thumb.proofs.expanded.Goals as goal
use Rattle.thumb.proofs.expanded.Goals.{After-bits-3}

-- bits 10 and 11 are the two highest of the five
far : (c : After-bits-3) → 8 ≤ c.bits-3.result
far c =
    let i = c.args.i in
    omega (arith, eqb-false (bits 10 2 i) 0 (sym c.repeated.ensures ∙ c.if-repeated.false))

pub overflow_mul-result : goal.overflow_mul-result
overflow_mul-result c =
    let a : c.bits.result ≤ 255 = omega arith in
    let b : c.repeats.result ≤ 16843009 = omega arith in
    omega (arith, mul-le-mul a b)

pub returns-then-repeated : goal.returns-then-repeated
unfolding expanded
returns-then-repeated c = rw (c.bits.ensures.0, c.repeats.ensures.0) (if-true _ _ (sym c.repeated.ensures ∙ c.if-repeated.true))

pub overflow_shl-result : goal.overflow_shl-result
overflow_shl-result c = omega (arith, far c)

pub overflow_mul-result-2 : goal.overflow_mul-result-2
overflow_mul-result-2 c =
    let n = c.bits-3.result in
    let a : 128 + c.bits-2.result ≤ 255 = omega arith in
    let b : 32 - n ≤ 24 = omega (arith, far c) in
    let p : 2 ^ (32 - n) ≤ 2 ^ 24 = pow-le-pow_right (lit< tt) b in
    rw (shifted (32 - n) (omega arith)) (omega (arith, mul-le-mul a p))

pub returns : goal.returns
unfolding expanded
returns c =
    rw (shifted (32 - c.bits-3.result) (omega (arith, far c)), c.bits-2.ensures.0, c.bits-3.ensures.0)
    (if-false _ _ (sym c.repeated.ensures ∙ c.if-repeated.false))
