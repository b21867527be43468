-- The digits of value / 10 come first, and the last digit after them.
-- Assumes nothing.
use Prim.Native.Nat.{◌<◌}
use mathlib.Core.Path.{◌≡◌, refl}
use native.Mathlib.Omega.{arith}
use Rattle.text.specs.Text.{digits}
use Rattle.text.proofs.Overlaid.{none, joined}
use Rattle.text.proofs.Numbers.{digits_last}
use Rattle.text.proofs.+put_digits.Goals as goal

pub returns-then-n-eq0 : goal.returns-then-n-eq0
unfolding digits
returns-then-n-eq0 t c = let e : c.args.n ≡ 0 = c.if-n-eq0.true in rw e (none _ _ (omega arith) (omega arith))

pub returns : goal.returns
returns t c =
    let a = c.args in
    let p : 0 < a.n = omega arith in
    rw (digits_last 10 a.n a.value _ p refl) (joined c.put_digits-next.ensures c.put_last.ensures)
