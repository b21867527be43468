-- Shifts are products and quotients by powers of two. Assumes nothing.
use Prim.Native.Nat.{◌/◌, ◌%◌, ◌^◌, ◌<◌}
use mathlib.Core.Path.{sym, ap, subst}
use borrow.Author.Rules.{rules}
use Rattle.words.proofs.Powers.{some, shifted, below, none_above, all_of}
use Rattle.words.proofs.bits.Goals as goal

pub returns-then-low-ge32 : goal.returns-then-low-ge32
returns-then-low-ge32 c = let a = c.args in (none_above a.word a.low a.width (search rules) c.if-low-ge32.true, some a.width)

pub returns-then-width-ge-WHOLE : goal.returns-then-width-ge-WHOLE
returns-then-width-ge-WHOLE c =
    let a = c.args in
    let e = all_of a.word a.low a.width (search rules) c.if-width-ge-WHOLE.true in
    (e, subst (λ x. x < 2 ^ a.width) (sym e) (below a.word a.low a.width))

pub nonzero_rem-result : goal.nonzero_rem-result
nonzero_rem-result c =
    let a = c.args in
    subst (λ x. 0 < x) (sym (shifted a.width c.if-width-ge-WHOLE.false)) (some a.width)

pub returns : goal.returns
returns c =
    let a = c.args in
    let e = ap (λ x. a.word / 2 ^ a.low % x) (shifted a.width c.if-width-ge-WHOLE.false) in
    (e, subst (λ x. x < 2 ^ a.width) (sym e) (below a.word a.low a.width))
