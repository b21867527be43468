-- The loop's invariant: the lines of the frames so far are laid, and the rest of the walk is left (proofs/Printing.antt). A turn more fills one
-- of the 256 places, or is the last.
-- Assumes nothing.
use Prim.Native.Nat.{◌-◌}
use Rattle.frame.specs.Frame.{inputs}
use Rattle.walking.specs.AsCoded.InPlace.{stands}
use Rattle.listing.proofs.Printing.{Halfway}
use Rattle.listing.proofs.put_walk.Given as goal

abbrev pub invariant-loop-going : goal.invariant-loop-going
invariant-loop-going l =
    Halfway (inputs l.image l.pdata l.rva l.xdata l.base l.stack) (stands l.initial.s l.initial.r l.initial.d).at (stands l.s l.r l.d) l.initial.out l.initial.next l.next l.out

abbrev pub decreases-loop-going : goal.decreases-loop-going
decreases-loop-going l = 256 - l.s.frames
