-- By the bit: the byte, or nothing. Assumes nothing.
use mathlib.Core.Path.{refl}
use borrow.Author.Tests.{eq-eqb, ne_eqb}
use Rattle.packed_codes.proofs.Buffer.{nothing}
use Rattle.packed_codes.proofs.Out.put_if.Goals as goal

pub returns-then-bit-eq1 : goal.returns-then-bit-eq1
returns-then-bit-eq1 c = rw (eq-eqb _ _ c.if-bit-eq1.true) c.put.ensures

pub returns-else-bit-eq1 : goal.returns-else-bit-eq1
returns-else-bit-eq1 c = nothing _ (rw (ne_eqb _ _ c.if-bit-eq1.false) refl)
