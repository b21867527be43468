-- The word and then the number.
-- Assumes nothing.
use Rattle.listing.proofs.put_refused.Goals as goal

pub returns : goal.returns
returns c = rw (← c.number-number.ensures) c.put_count.ensures
