-- One bit is set where it is 1. Assumes nothing.
use mathlib.Core.Path.{refl}
use Rattle.words.proofs.bit.Goals as goal

pub bits-requires : goal.bits-requires
bits-requires c = tt

pub returns : goal.returns
returns c = rw c.bits.ensures.0 refl
