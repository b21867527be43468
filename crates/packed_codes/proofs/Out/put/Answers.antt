-- A byte is set at the place, while there is room. Assumes nothing.
use mathlib.Core.Path.{refl}
use borrow.Author.Tests.{lt-ltb, le-ltb}
use Rattle.packed_codes.specs.AsCoded.Out.{put_of, puts}
use Rattle.packed_codes.proofs.Out.put.Goals as goal

pub returns-then-self-ge16 : goal.returns-then-self-ge16
unfolding put_of puts
returns-then-self-ge16 c = rw (le-ltb _ _ c.if-self-ge16.true) refl

pub returns : goal.returns
unfolding put_of puts
returns c = rw (lt-ltb _ _ c.if-self-ge16.false) refl
