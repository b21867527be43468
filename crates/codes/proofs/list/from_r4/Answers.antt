-- The range from r4 up to X, by the tests that the definition makes. Assumes nothing.
use mathlib.Core.Path.{refl, sym, ◌∙◌}
use native.Mathlib.Omega.{arith}
use borrow.Author.Tests.{le-leb, lt-leb}
use Rattle.words.proofs.Tests.{if-true}
use Rattle.codes.proofs.Registers.{from-r4, range-r4}
use Rattle.codes.proofs.list.from_r4.Goals as goal
use Rattle.codes.proofs.list.from_r4.Goals.{else-x-ge4-via-then-x-ge4+else-x-le11, else-x-ge4-via-else-x-ge4}

pub returns-then-x-le11 : goal.returns-then-x-le11
returns-then-x-le11 c =
    let x = c.args.x in
    let h = c.if-x-ge4.true in
    let k = c.if-x-le11.true in
    let e = c.range.ensures.0 ∙ sym (if-true _ 0 (le-leb x 12 (omega arith))) in
    (e ∙ from-r4 x h k, omega (arith, e, range-r4 x h k))

pub returns : goal.returns
returns c = (
  elim c.else-x-ge4.branch [
    | else-x-ge4-via-then-x-ge4+else-x-le11 w ↦ rw (le-leb _ _ w.if-x-ge4.true, lt-leb _ _ w.if-x-le11.false) refl
    | else-x-ge4-via-else-x-ge4 w ↦ rw (lt-leb _ _ w.if-x-ge4.false) refl
  ],
  omega arith,
)
