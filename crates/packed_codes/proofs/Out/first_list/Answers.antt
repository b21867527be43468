-- Each call writes one piece of the list, in the definition's order. Assumes nothing.
use Rattle.packed.proofs.IntegerLists.{word-others, word-lr, word-list}
use Rattle.packed_codes.specs.PackedCodes.{first_list}
use Rattle.packed_codes.proofs.Buffer.{joined}
use Rattle.packed_codes.proofs.Out.first_list.Goals as goal

pub pop-requires : goal.pop-requires
pop-requires c =
    let r = c.before.before.before.before in
    let b = r.before.before.before.before.before in
    word-list b.args.word b.pf-fold.result r.registers-list.result r.registers-list.ensures

pub returns : goal.returns
unfolding first_list
returns c =
    let q = c.before.before.before.before in
    let n = q.before.before in
    let k = n.before in
    let r = k.before.before in
    let v = r.before in
    let a = v.before.before in
    let b = a.before.before in
    let w = b.args.word in
    let l = r.registers-list.result in
    let e = r.registers-list.ensures in
    rw (word-others w b.pf-fold.result l e, word-lr w b.pf-fold.result l e, k.chain_code.ensures, e, b.pf-fold.ensures, b.fields-p.ensures) at
    (joined _ _ _ (joined _ _ _ (joined _ _ _ (joined _ _ _ (joined _ _ _ a.adjust.ensures v.vpop.ensures) n.put_if.ensures) q.pop.ensures) c.put_if-2.ensures) c.put.ensures)
