-- The byte is the digit of the definition.
-- Assumes nothing.
use Rattle.text.proofs.put_last.Goals as goal

pub returns : goal.returns
returns c = rw (← c.digit.ensures) c.put_byte.ensures
