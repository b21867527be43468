-- By the fold: nothing, or the amount's code. Assumes nothing.
use mathlib.Core.Path.{refl}
use Rattle.packed_codes.proofs.Pieces.{amount-small}
use Rattle.packed_codes.proofs.Buffer.{nothing}
use Rattle.packed_codes.proofs.Out.adjust.Goals as goal

pub returns-then-fold : goal.returns-then-fold
returns-then-fold c = nothing _ (rw c.if-fold.true refl)

pub up-requires : goal.up-requires
up-requires c =
    let b = c.before.before.before in
    rw c.amount.ensures (amount-small b.args.p b.requires)

pub returns : goal.returns
returns c = rw c.if-fold.false (rw c.amount.ensures at c.up.ensures)
