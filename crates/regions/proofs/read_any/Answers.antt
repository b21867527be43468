-- Its four words are those at its place. Assumes nothing.
use Rattle.regions.proofs.read_any.Goals as goal

pub returns : goal.returns
returns c = cc
