-- The loop's invariant: no list r4-rX below x was this one. Assumes nothing.
use Prim.Native.Nat.{◌+◌, ◌-◌}
use mathlib.Core.Path.{◌≡◌, sym, ap, ◌∙◌}
use native.Mathlib.Omega.{arith}
use Rattle.codes.specs.Table.{range}
use Rattle.codes.proofs.Registers.{from-r4}
use Rattle.packed_codes.specs.PackedCodes.{up_to}
use Rattle.packed_codes.proofs.Pieces.{top-here, top-later, top-none}
use Rattle.packed_codes.proofs.top_from.Goals as goal
use Rattle.packed_codes.proofs.top_from.Goals.{After-from_r4}

pub overflow_add-x-end : goal.overflow_add-x-end
overflow_add-x-end c = omega arith

pub loop-x-init : goal.loop-x-init
loop-x-init c =
    let a = c.args in
    let n : 4 ≡ a.first + 4 - a.first = omega arith in (omega arith, ap (λ n. up_to n a.first a.list) n)

pub from_r4-requires : goal.from_r4-requires
from_r4-requires c = tt

-- the list that it is compared with
mask : (c : After-from_r4) → c.from_r4.result ≡ range 4 c.loop-x.x
mask c = c.from_r4.ensures.0 ∙ sym (from-r4 c.loop-x.x (omega arith) (omega arith))

pub returns-then-list-from_r4 : goal.returns-then-list-from_r4
returns-then-list-from_r4 c =
    let l = c.loop-x in
    sym (l.invariant.1 ∙ top-here _ l.x _ c.loop-x-test.true (c.if-list-from_r4.true ∙ mask c.before))

pub overflow_step-x : goal.overflow_step-x
overflow_step-x c = omega arith

pub loop-x-smaller : goal.loop-x-smaller
loop-x-smaller c = omega arith

pub loop-x-preserved : goal.loop-x-preserved
loop-x-preserved c =
    let l = c.loop-x in
    (omega arith, l.invariant.1 ∙ top-later _ l.x _ c.loop-x-test.true (rw (mask c.before) at c.if-list-from_r4.false))

pub returns : goal.returns
returns c = let l = c.loop-x in sym (l.invariant.1 ∙ top-none _ l.x _ c.loop-x-test.false)
