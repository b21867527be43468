-- One text after another.
-- Assumes nothing.
use Rattle.text.proofs.Overlaid.{joined}
use Rattle.text.proofs.put_count.Goals as goal

pub returns : goal.returns
returns c = joined c.put_text-next.ensures c.put_decimal.ensures
