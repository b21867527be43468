-- The answer's text and the line's end.
-- Assumes nothing.
use Rattle.text.proofs.Overlaid.{joined}
use Rattle.fits_text.proofs.Answered.{shown}
use Rattle.fits_text.proofs.answer_fits.Goals as goal

pub returns : goal.returns
returns c =
    let k = shown _ c.check_file-answer.ensures (joined c.put_answer-next.ensures c.put_byte.ensures) in
    record { value = k.0; upper_bound = k.1 }
