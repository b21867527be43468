-- The definition asks the same questions in the same order.
-- Assumes nothing.
use Prim.Native.Nat.{◌<◌}
use native.Mathlib.Omega.{arith}
use Rattle.text.proofs.Numbers.{decimal-none, decimal-one, decimal-more}
use Rattle.text.proofs.+decimal_length.Goals as goal

pub returns-then-limit-eq0 : goal.returns-then-limit-eq0
returns-then-limit-eq0 t c = (decimal-none c.args.limit c.args.value c.if-limit-eq0.true, omega arith)

pub returns-then-value-lt10 : goal.returns-then-value-lt10
returns-then-value-lt10 t c = (decimal-one c.args.limit c.args.value c.if-value-lt10.true, omega arith)

pub returns : goal.returns
returns t c =
    let p : 0 < c.args.limit = omega arith in
    (decimal-more c.args.limit c.args.value p c.if-value-lt10.false c.decimal_length.ensures.0, omega arith)
