-- The loop's invariant: n is how many of the registers passed are in the list.
-- Assumes nothing.
use Prim.Native.Nat.{◌+◌}
use mathlib.Core.Path.{◌≡◌, sym, ap, ◌∙◌}
use native.Mathlib.Numerals.{add-one}
use native.Mathlib.Omega.{arith}
use Rattle.words.specs.Bits.{bits}
use Rattle.thumb.specs.Rows.{count}
use Rattle.thumb.proofs.Counts.{none, more}
use Rattle.thumb.proofs.count.Goals as goal

pub loop-i-init : goal.loop-i-init
loop-i-init c = (omega arith, sym (none _))

pub loop-i-preserved : goal.loop-i-preserved
loop-i-preserved c =
    let l = c.loop-i in
    let list = c.args.list in
    let e : l.n + c.bits-n.result ≡ count list l.i + bits l.i 1 list = omega (arith, l.invariant.1) in
    (omega arith, e ∙ sym (more list l.i) ∙ ap (count list) (sym (add-one l.i)))
