-- One text after another; an offset's last eight digits are those of its last 32 bits.
-- Assumes nothing.
use Rattle.text.proofs.Overlaid.{joined, laid_as}
use Rattle.fits_text.proofs.Offsets.{hex8-low}
use Rattle.fits_text.proofs.put_offset.Goals as goal

pub returns : goal.returns
returns c = joined c.put_text-next.ensures (laid_as (hex8-low _) c.put_hex8.ensures)
