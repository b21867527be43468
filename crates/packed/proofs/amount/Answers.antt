-- By the test that the definition makes. Assumes nothing.
use Prim.Native.Nat.{◌+◌, ◌%◌}
use mathlib.Core.Path.{◌≡◌, sym, ap, ◌∙◌}
use native.Mathlib.Omega.{arith}
use Rattle.words.specs.Units.{stack_words}
use Rattle.words.proofs.Tests.{if-true, if-false}
use Rattle.packed.proofs.amount.Goals as goal

pub folded-requires : goal.folded-requires
folded-requires c = tt

pub bits-requires : goal.bits-requires
bits-requires c = tt

pub returns-then-folded : goal.returns-then-folded
returns-then-folded c =
    let p = c.args.p in
    let e : c.bits.result + 1 ≡ p.adjust % 4 + 1 = omega arith in
    ap stack_words (e ∙ if-true _ p.adjust (sym c.folded.ensures ∙ c.if-folded.true))

pub returns-else-folded : goal.returns-else-folded
returns-else-folded c =
    let p = c.args.p in
    ap stack_words (if-false (p.adjust % 4 + 1) _ (sym c.folded.ensures ∙ c.if-folded.false))
