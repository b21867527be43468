-- One text after another.
-- Assumes nothing.
use Rattle.text.proofs.Overlaid.{joined}
use Rattle.listing.proofs.put_refused_at.Goals as goal

pub returns : goal.returns
returns c = joined (joined c.put_refused-next.ensures c.put_text-next.ensures) c.put_hex8.ensures
