-- Both fields are the definition's tests. Assumes nothing.
use Rattle.pdata.proofs.check.Goals as goal

pub returns : goal.returns
returns c = cc
