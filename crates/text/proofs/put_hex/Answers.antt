-- The loop's invariant: the digits above i places are laid.
-- Assumes nothing.
use Prim.Native.Nat.{◌-◌}
use mathlib.Core.Path.{◌≡◌}
use native.Mathlib.Omega.{arith}
use Rattle.text.specs.Text.{digits}
use Rattle.text.proofs.Overlaid.{none, joined, laid_as}
use Rattle.text.proofs.Numbers.{hex-more}
use Rattle.text.proofs.put_hex.Goals as goal

pub loop-i-init : goal.loop-i-init
unfolding digits
loop-i-init c =
    let n = c.args.n in
    let z : n - n ≡ 0 = omega arith in
    (omega arith, omega arith, rw z (none _ _ (omega arith) (omega arith)))

pub loop-i-preserved : goal.loop-i-preserved
loop-i-preserved c =
    let l = c.loop-i in
    let a = c.args in
    let d = c.digit in
    let more = hex-more a.n l.i a.value d.result (omega arith) l.invariant.0 d.ensures in
    (omega (arith, l.invariant.0), l.invariant.1, laid_as more (joined l.invariant.2 c.put_byte-next.ensures))
