-- `reader::skip` meets its contract. The loop's invariant: what is left to skip from here ends where the whole does from the start. Each
-- turn moves on within the bytes, and the measure is how many of them are left.
-- Assumes nothing.
use Prim.Native.Nat.{◌-◌}
use mathlib.Core.Path.{◌≡◌}
use lib.ListN.{length}
use Rattle.words.specs.Units.{code_bytes}
use Rattle.reader.specs.AsCoded.Skip.{skip_at}
use Rattle.reader.proofs.skip.Given as goal

abbrev pub invariant-loop-left : goal.invariant-loop-left
invariant-loop-left l = skip_at l.codes (code_bytes l.i) l.left ≡ skip_at l.codes l.fn.at l.n

abbrev pub decreases-loop-left : goal.decreases-loop-left
decreases-loop-left l = length l.codes - l.i
