-- Nothing for Ret=3; else each call writes one piece of the list, in the definition's order. Assumes nothing.
use mathlib.Core.Path.{refl}
use borrow.Author.Tests.{eq-eqb, ne_eqb}
use Rattle.packed.proofs.IntegerLists.{word-others, word_made}
use Rattle.packed_codes.specs.PackedCodes.{second_list}
use Rattle.packed_codes.proofs.Pieces.{read-fit}
use Rattle.packed_codes.proofs.Buffer.{nothing, joined}
use Rattle.packed_codes.proofs.Out.second_list.Goals as goal

pub returns-then-p-eq3 : goal.returns-then-p-eq3
unfolding second_list
returns-then-p-eq3 c = nothing _ (rw (eq-eqb _ _ (rw c.fields-p.ensures at c.if-p-eq3.true)) refl)

pub leave-requires : goal.leave-requires
leave-requires c =
    let r = c.before.before.before.before.before in
    let f = r.before.before.before.before in
    let made = word_made f.args.word r.ef-fold.result r.registers-list.result r.registers-list.ensures in
    (read-fit _ _ f.fields-p.ensures, rw f.fields-p.ensures made)

pub returns : goal.returns
unfolding second_list
returns c =
    let v = c.before.before in
    let a = v.before.before in
    let r = a.before.before in
    let e = r.before in
    let f = e.before.before.before in
    let list = word-others f.args.word e.ef-fold.result r.registers-list.result r.registers-list.ensures in
    rw (ne_eqb _ _ (rw f.fields-p.ensures at e.if-p-eq3.false)) (rw (list, e.ef-fold.ensures, f.fields-p.ensures) at (joined _ _ _ (joined _ _ _ a.adjust.ensures v.vpop.ensures) c.leave.ensures))
