-- By what the tests leave of the bytes. Assumes nothing.
use mathlib.Core.Path.{◌∙◌}
use native.Mathlib.Omega.{arith}
use Rattle.thumb.proofs.Instructions.{none-there, short-there, half-there, long-there}
use Rattle.thumb.proofs.read_at.Goals as goal
use Rattle.thumb.proofs.read_at.Goals.{then-n-at-via-then-n-at, then-n-at-via-else-n-at+then-n-at-lt2}

pub returns-then-n-at : goal.returns-then-n-at
returns-then-n-at c =
    let a = c.args in
    c.none.ensures ∙ none-there a.code.now a.at (elim c.then-n-at.branch [ then-n-at-via-then-n-at w ↦ omega arith | then-n-at-via-else-n-at+then-n-at-lt2 w ↦ omega arith ])

pub returns-then-h-lt59392 : goal.returns-then-h-lt59392
returns-then-h-lt59392 c =
    let a = c.args in
    rw (c.narrow.ensures, c.halfword-h.ensures.0) (short-there a.code.now a.at (omega arith) (omega arith))

pub returns-then-n-at-lt4 : goal.returns-then-n-at-lt4
returns-then-n-at-lt4 c =
    let a = c.args in
    c.none-then-n-at-lt4.ensures ∙ half-there a.code.now a.at (omega arith) (omega arith) (omega arith)

pub returns : goal.returns
returns c =
    let a = c.args in
    rw (c.wide.ensures, c.halfword-h.ensures.0, c.halfword-k.ensures.0)
    (long-there a.code.now a.at (omega arith) (omega arith) (omega arith))
