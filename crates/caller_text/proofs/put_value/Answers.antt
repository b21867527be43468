-- One text after another.
-- Assumes nothing.
use Rattle.text.proofs.Overlaid.{joined}
use Rattle.caller_text.proofs.put_value.Goals as goal

pub returns : goal.returns
returns c = joined (joined c.put_byte-next.ensures c.put_hex8-next.ensures) c.put_byte.ensures
