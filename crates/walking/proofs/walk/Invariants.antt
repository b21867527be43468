-- The invariant is `Midway`, for the room that is left and the frames that are listed. The measure is the room.
-- Assumes nothing.
use Rattle.std.proofs.Common.{ℕ, ◌-◌, List, length}
use Rattle.frame.specs.Frame.{inputs}
use Rattle.walking.specs.declared.Frame.{Frame}
use Rattle.walking.proofs.Loop.{Midway}
use Rattle.walking.proofs.walk.Given as goal

abbrev pub invariant-loop-stop : goal.invariant-loop-stop
invariant-loop-stop l =
    (left : ℕ) × (fs : List Frame) × Midway (inputs l.image l.pdata l.rva l.xdata l.base l.stack) l.fn.g l.initial.list left l.s fs l.list

abbrev pub decreases-loop-stop : goal.decreases-loop-stop
decreases-loop-stop l = length l.list - l.s.frames
