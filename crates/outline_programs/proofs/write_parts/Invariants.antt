-- The buffer keeps its length, and where the outline stands it can go on. A part more is of one frame more, or is the last.
-- Assumes nothing.
use Prim.Native.Nat.{◌-◌}
use mathlib.Core.Path.{◌≡◌}
use lib.ListN.{length}
use Rattle.outlining.specs.AsCoded.Parts.{Ready}
use Rattle.outline_programs.proofs.write_parts.Given as goal

abbrev pub invariant-loop-part : goal.invariant-loop-part
invariant-loop-part g l = (length l.out ≡ length l.initial.out) × Ready l.file l.a

abbrev pub decreases-loop-part : goal.decreases-loop-part
decreases-loop-part g l = 257 - l.a.frames
