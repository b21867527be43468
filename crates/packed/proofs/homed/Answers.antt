-- The range up to r3, which is within r12. Assumes nothing.
use Prim.Native.Nat.{◌%◌}
use mathlib.Core.Path.{◌∙◌}
use native.Mathlib.Omega.{arith}
use Rattle.words.proofs.Tests.{if-true}
use Rattle.packed.proofs.IntegerLists.{range-r3}
use Rattle.packed.proofs.homed.Goals as goal

pub returns-then-fold : goal.returns-then-fold
returns-then-fold c =
    let k = c.args.adjust % 4 in
    (c.range.ensures.0 ∙ if-true _ 0 c.if-fold.true, omega (arith, c.range.ensures.0, range-r3 k))
