-- The digits are as many as the definition counts.
-- Assumes nothing.
use native.Mathlib.Omega.{arith}
use Rattle.text.specs.Text.{digits}
use Rattle.text.proofs.Overlaid.{joined}
use Rattle.text.proofs.Numbers.{decimal-one, decimal-two, decimal-three}
use Rattle.text.proofs.put_decimal.Goals as goal

pub returns-then-value-lt10 : goal.returns-then-value-lt10
unfolding digits
returns-then-value-lt10 c = rw (← decimal-one 20 c.args.value (omega arith)) c.put_last.ensures

pub returns-then-value-lt100 : goal.returns-then-value-lt100
unfolding digits
returns-then-value-lt100 c =
    let a = c.args in
    let first = c.put_last-next in
    rw (← decimal-two a.value (omega arith) (omega arith)) (joined first.ensures c.put_last-then-value-lt100.ensures)

pub returns-then-value-lt1000 : goal.returns-then-value-lt1000
unfolding digits
returns-then-value-lt1000 c =
    let a = c.args in
    let first = c.put_last-next-then-value-lt1000 in
    let second = c.put_last-next-then-value-lt1000-2 in
    rw (← decimal-three a.value (omega arith) (omega arith)) (joined (joined first.ensures second.ensures) c.put_last-then-value-lt1000.ensures)

pub returns : goal.returns
returns c = rw (← c.decimal_length-n.ensures.0) c.put_digits.ensures
