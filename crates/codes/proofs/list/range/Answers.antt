-- Ones shifted are powers of two, whose difference is the range; where b is below a it is 0. Assumes nothing.
use Prim.Native.Nat.{◌+◌, ◌^◌, ◌≤◌}
use mathlib.Core.Path.{refl}
use lib.Pow.{pow_mono}
use native.Mathlib.Omega.{arith}
use borrow.Author.Tests.{leb-true, le-leb, lt-leb}
use Rattle.words.proofs.Powers.{shifted}
use Rattle.words.proofs.Tests.{if-true}
use Rattle.codes.proofs.Registers.{range_small, range_none}
use Rattle.codes.proofs.list.range.Goals as goal
use Rattle.codes.proofs.list.range.Goals.{else-a-b-via-then-a-b+else-b-le12, else-a-b-via-else-a-b}

pub overflow_add-result : goal.overflow_add-result
overflow_add-result c = omega (arith, leb-true)

pub overflow_shl-result : goal.overflow_shl-result
overflow_shl-result c = omega (arith, leb-true)

pub overflow_shl-result-then-b-le12 : goal.overflow_shl-result-then-b-le12
overflow_shl-result-then-b-le12 c = omega (arith, leb-true)

-- 2^a and 2^(b + 1), as they are shifted
pub overflow_sub-result : goal.overflow_sub-result
overflow_sub-result c =
    let r = c.args in
    let l : r.a ≤ r.b + 1 = omega arith in
    let m : 2 ^ r.a ≤ 2 ^ (r.b + 1) = pow_mono l in
    rw (shifted (r.b + 1) (omega (arith, leb-true)), shifted r.a (omega (arith, leb-true))) m

pub returns-then-b-le12 : goal.returns-then-b-le12
returns-then-b-le12 c =
    let r = c.args in
    rw (shifted (r.b + 1) (omega arith), shifted r.a (omega arith))
    (if-true _ 0 (le-leb r.b 12 c.if-b-le12.true), range_small r.a r.b c.if-b-le12.true)

pub returns : goal.returns
returns c =
    let r = c.args in (
      elim c.else-a-b.branch [
        | else-a-b-via-then-a-b+else-b-le12 w ↦ rw (lt-leb _ _ w.if-b-le12.false) refl
        | else-a-b-via-else-a-b w ↦ range_none r.a r.b w.if-a-b.false
      ],
      omega arith,
    )
