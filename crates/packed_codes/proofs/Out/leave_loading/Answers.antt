-- The pop of the list without LR, then the three bytes of the definition. Assumes nothing.
use native.Mathlib.Omega.{arith}
use Rattle.codes.proofs.Registers.{bare-others, bare-lr}
use Rattle.packed_codes.proofs.Buffer.{joined}
use Rattle.packed_codes.proofs.Out.leave_loading.Goals as goal

pub pop-requires : goal.pop-requires
pop-requires c = omega (arith, c.bits.ensures.1)

pub returns : goal.returns
returns c =
    let u = c.before.before.before.before in
    let q = u.before.before in
    let o = q.bits in
    let small = o.ensures.1 in
    rw (bare-others o.result small, bare-lr o.result small, o.ensures.0) at
    (joined _ _ _ q.pop.ensures (joined _ _ _ u.put.ensures (joined _ _ _ c.put-2.ensures c.put-3.ensures)))
