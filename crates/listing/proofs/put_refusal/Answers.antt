-- One text after another.
-- Assumes nothing.
use Rattle.text.proofs.Overlaid.{joined}
use Rattle.listing.proofs.put_refusal.Goals as goal

pub returns : goal.returns
returns c = joined c.put_refused-next.ensures c.put_byte.ensures
