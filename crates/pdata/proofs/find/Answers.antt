-- The table is checked, and what was checked is of this table. Assumes nothing.
use Rattle.pdata.proofs.find.Goals as goal

pub returns : goal.returns
returns c = c.find_in.ensures c.check.ensures
