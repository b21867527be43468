-- One text after another.
-- Assumes nothing.
use Rattle.text.specs.Text.{text, decimal}
use Rattle.text.proofs.Overlaid.{joined, joined-two}
use Rattle.listing.proofs.put_last.Goals as goal

pub returns : goal.returns
returns c =
    joined (joined-two (text " codes ") (decimal c.args.codes) (joined-two (text " frames ") (decimal c.args.frames) c.put_stop-next.ensures c.put_count-next.ensures) c.put_count-next-2.ensures) c.put_byte.ensures
