-- By the amount: nothing, one byte, or two. Assumes nothing.
use mathlib.Core.Path.{refl}
use borrow.Author.Tests.{eq-eqb, ne_eqb, le-leb, lt-leb}
use Rattle.packed_codes.proofs.Buffer.{nothing, joined}
use Rattle.packed_codes.proofs.Out.up.Goals as goal

pub returns-then-n-eq0 : goal.returns-then-n-eq0
returns-then-n-eq0 c = nothing _ (rw (eq-eqb _ _ c.if-n-eq0.true) refl)

pub returns-then-n-le-NARROW_WORDS : goal.returns-then-n-le-NARROW_WORDS
returns-then-n-le-NARROW_WORDS c =
    let b = c.before.before in
    rw (ne_eqb _ _ b.if-n-eq0.false, le-leb _ 127 b.if-n-le-NARROW_WORDS.true) c.put.ensures

pub returns : goal.returns
returns c =
    let b = c.before.before.before.before in
    rw (ne_eqb _ _ b.if-n-eq0.false, lt-leb _ 127 b.if-n-le-NARROW_WORDS.false) (joined _ _ _ c.put-2.ensures c.put-3.ensures)
