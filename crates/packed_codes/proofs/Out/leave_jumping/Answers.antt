-- The pop, 04 by H, then the end code of Ret. Assumes nothing.
use mathlib.Core.Bool.{and_comm}
use lib.Dec.{eqb}
use Rattle.words.specs.Bits.{bits}
use Rattle.codes.proofs.Registers.{made-lr, made_list}
use Rattle.packed_codes.specs.PackedCodes.{low}
use Rattle.packed_codes.proofs.Buffer.{joined}
use Rattle.packed_codes.proofs.Out.leave_jumping.Goals as goal

pub pop-requires : goal.pop-requires
pop-requires c =
    let b = c.before.before in
    made_list b.args.list b.args.p.l b.requires.1 b.requires.0.l

pub returns : goal.returns
returns c =
    let u = c.before.before.before in
    let q = u.before.before in
    let b = q.before.before.before in
    let a = b.args in
    rw (made-lr a.list a.p.l b.requires.1 b.requires.0.l, and_comm (eqb a.p.l 0) (low (bits 0 13 a.list))) at
    (joined _ _ _ (joined _ _ _ q.pop.ensures u.put_if.ensures) c.put.ensures)
