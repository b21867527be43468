-- Each field is the bits that the definition says. Assumes nothing.

use Rattle.packed.proofs.fields.Goals as goal

pub returns : goal.returns
returns c = cc
