-- By the test of R that the definition makes. Assumes nothing.
use Prim.Native.Nat.{◌+◌}
use mathlib.Core.Path.{sym, ◌∙◌}
use native.Mathlib.Omega.{arith}
use borrow.Author.Tests.{eq-eqb, ne_eqb}
use Rattle.codes.specs.Table.{range}
use Rattle.codes.proofs.Registers.{from-r4}
use Rattle.words.proofs.Tests.{if-true, if-false}
use Rattle.packed.proofs.saved.Goals as goal

pub from_r4-requires : goal.from_r4-requires
from_r4-requires c = tt

pub returns-then-p-eq0 : goal.returns-then-p-eq0
returns-then-p-eq0 c =
    let p = c.args.p in
    (c.from_r4.ensures.0 ∙ sym (from-r4 (4 + p.reg) (omega arith) (omega arith)) ∙ if-true _ 0 (eq-eqb _ _ c.if-p-eq0.true), c.from_r4.ensures.1)

pub returns : goal.returns
returns c =
    let p = c.args.p in
    (if-false (range 4 (4 + p.reg)) 0 (ne_eqb _ _ c.if-p-eq0.false), omega arith)
