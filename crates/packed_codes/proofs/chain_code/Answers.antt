-- By the list: r11 and LR, or another. Assumes nothing.
use mathlib.Core.Path.{refl}
use borrow.Author.Tests.{eq-eqb, ne_eqb}
use Rattle.packed_codes.proofs.chain_code.Goals as goal

pub returns-then-list-eq18432 : goal.returns-then-list-eq18432
returns-then-list-eq18432 c = rw (eq-eqb _ _ c.if-list-eq18432.true) refl

pub returns : goal.returns
returns c = rw (ne_eqb _ _ c.if-list-eq18432.false) refl
