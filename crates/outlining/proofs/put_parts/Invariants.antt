-- The loop's invariant: the parts so far are laid, and the others are left (proofs/Laying.antt). A part more is of one frame more, or is the last.
-- Assumes nothing.
use Prim.Native.Nat.{◌-◌}
use Rattle.outlining.proofs.Laying.{Laying}
use Rattle.outlining.proofs.put_parts.Given as goal

abbrev pub invariant-loop-next : goal.invariant-loop-next
invariant-loop-next l = Laying l.file l.initial.s l.initial.out l.s l.place l.out

abbrev pub decreases-loop-next : goal.decreases-loop-next
decreases-loop-next l = 257 - l.s.frames
