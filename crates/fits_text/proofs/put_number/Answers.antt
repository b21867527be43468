-- The word and then the number.
-- Assumes nothing.
use Rattle.fits_text.proofs.put_number.Goals as goal

pub returns : goal.returns
returns c = rw (← c.number-number.ensures) c.put_count.ensures
