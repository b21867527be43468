-- By R and Reg: nothing, or one byte. Assumes nothing.
use mathlib.Core.Path.{refl}
use borrow.Author.Tests.{eq-eqb, ne_eqb}
use Rattle.packed_codes.proofs.Buffer.{nothing}
use Rattle.packed_codes.proofs.Out.vpop.Goals as goal

pub returns-then-p-ne1 : goal.returns-then-p-ne1
returns-then-p-ne1 c = nothing _ (rw (ne_eqb _ _ c.if-p-ne1.true) refl)

pub returns-then-p-eq-NO_D : goal.returns-then-p-eq-NO_D
returns-then-p-eq-NO_D c = nothing _ (rw (eq-eqb _ _ c.if-p-ne1.false, eq-eqb _ 7 c.if-p-eq-NO_D.true) refl)

pub returns : goal.returns
returns c =
    let b = c.before.before.before in
    rw (eq-eqb _ _ b.if-p-ne1.false, ne_eqb _ 7 b.if-p-eq-NO_D.false) c.put.ensures
