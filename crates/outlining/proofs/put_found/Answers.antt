-- Without a record there are no regions, and so no text.
-- Assumes nothing.
use Rattle.region_text.proofs.Nothing.{no-regions}
use Rattle.outlining.proofs.put_found.Goals as goal

pub returns-in-Ok-None : goal.returns-in-Ok-None
returns-in-Ok-None c =
    let e = rw c.in-Ok-None.field-0-is at c.in-Ok-None.ensures in
    rw (← e c.requires, no-regions) c.put_text.ensures

pub returns-in-Err : goal.returns-in-Err
returns-in-Err c = rw (← c.in-Err.ensures c.requires, no-regions) c.put_text-in-Err.ensures
