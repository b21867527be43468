-- Each return is one case of the definition, written piece by piece. Assumes nothing.
use mathlib.Core.Path.{◌≡◌, refl}
use mathlib.Core.Bool.{false, ◌&&◌}
use lib.Dec.{eqb}
use borrow.Author.Tests.{eq-eqb, ne_eqb}
use Rattle.codes.proofs.Registers.{made-lr, made_list}
use Rattle.packed_codes.proofs.Buffer.{joined}
use Rattle.packed_codes.proofs.Out.leave.Goals as goal
use Rattle.packed_codes.proofs.Out.leave.Goals.{else-p-eq1-via-then-p-eq1+else-p-eq1-2, else-p-eq1-via-else-p-eq1}

pub returns-then-p-eq1-2 : goal.returns-then-p-eq1-2
returns-then-p-eq1-2 c = rw (eq-eqb _ _ c.if-p-eq1.true, c.if-p-eq1-2.true) c.leave_loading.ensures

pub pop-requires : goal.pop-requires
pop-requires c =
    let s = c.before.before.before.before.before in
    made_list s.args.list s.args.p.l s.requires.1 s.requires.0.l

pub returns-then-p-eq0 : goal.returns-then-p-eq0
returns-then-p-eq0 c =
    let a = c.args in
    let lr = made-lr a.list a.p.l c.requires.1 c.requires.0.l in
    -- not both H=1 and L=1
    let others : (eqb a.p.h 1 && eqb a.p.l 1) ≡ false =
    elim c.else-p-eq1.branch [
      | else-p-eq1-via-then-p-eq1+else-p-eq1-2 w ↦ rw (eq-eqb _ _ w.if-p-eq1.true, ne_eqb _ _ w.if-p-eq1-2.false) refl
      | else-p-eq1-via-else-p-eq1 w ↦ rw (ne_eqb _ _ w.if-p-eq1.false) refl
    ] in
    rw (others, eq-eqb _ _ c.if-p-eq0.true) (rw lr at (joined _ _ _ c.pop.ensures c.put.ensures))
