-- By the frame's place.
-- Assumes nothing.
use Rattle.region_text.proofs.Nothing.{no-regions}
use Rattle.outlining.proofs.put_lines.Goals as goal

pub returns-in-Leaf : goal.returns-in-Leaf
returns-in-Leaf c = rw (c.in-Leaf.is, no-regions) c.put_text.ensures
