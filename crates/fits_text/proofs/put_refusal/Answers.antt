-- The number, and in the one case that has an offset the offset after it.
-- Assumes nothing.
use Rattle.text.specs.Text.{text, hex8}
use Rattle.text.proofs.Overlaid.{joined-two, laid_as}
use Rattle.fits_text.proofs.Answered.{record-text, short-text, differs-text}
use Rattle.fits_text.proofs.put_refusal.Goals as goal

pub returns-in-Record : goal.returns-in-Record
returns-in-Record c = laid_as (record-text c.in-Record.is) c.put_number-next.ensures

pub returns-in-Short : goal.returns-in-Short
returns-in-Short c = laid_as (short-text c.in-Short.is) c.put_number-next.ensures

pub returns-in-Differs : goal.returns-in-Differs
returns-in-Differs c = laid_as (differs-text c.in-Differs.is) (joined-two (text " at ") (hex8 _) c.put_number-next.ensures c.put_offset.ensures)
