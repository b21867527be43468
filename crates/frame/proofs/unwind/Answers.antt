-- One frame is the first of a walk; the checks do not read the image base.
-- Assumes nothing.
use Rattle.frame.proofs.unwind.Goals as goal

pub returns : goal.returns
returns c = c.frame_of.ensures c.check-c.ensures
