-- The list is the sum that the definition names. Assumes nothing.
use mathlib.Core.Path.{refl}
use Rattle.codes.proofs.pop.Goals as goal

pub returns : goal.returns
returns c = rw c.lr_if.ensures refl
