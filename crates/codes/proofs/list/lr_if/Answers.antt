-- By the test. Assumes nothing.
use mathlib.Core.Path.{refl}
use Rattle.codes.proofs.list.lr_if.Goals as goal

pub returns-then-listed : goal.returns-then-listed
returns-then-listed c = rw c.if-listed.true refl

pub returns : goal.returns
returns c = rw c.if-listed.false refl
