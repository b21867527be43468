-- Its start is a number of halfwords, as a head's length is, and the rest are its bits. Assumes nothing.
use Rattle.xdata.proofs.scope_of.Goals as goal

pub returns : goal.returns
returns c = cc
