-- Each call gives a part of the definition's sum. Assumes nothing.
use mathlib.Core.Path.{refl}
use Rattle.codes.proofs.Registers.{test-number}
use Rattle.packed.proofs.list.Goals as goal

pub returns : goal.returns
returns c =
    let b = c.before.before in
    let s = b.before.before in
    rw (s.saved.ensures.0, b.homed.ensures.0, b.chained.ensures.0, c.lr_if.ensures, test-number _ s.requires.l) refl
