-- The word, the number and the line's end.
-- Assumes nothing.
use Rattle.text.proofs.Overlaid.{joined}
use Rattle.region_text.proofs.put_refused.Goals as goal

pub returns : goal.returns
returns c =
    rw (← c.number-number.ensures)
    (joined c.put_count-next.ensures c.put_byte.ensures)
