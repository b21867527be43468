-- Each field is its word of the file.
-- Assumes nothing.
use Rattle.report.proofs.registers.Goals as goal

pub returns : goal.returns
returns c = simp (c.integers-r.ensures, c.doubles-d.ensures, c.word32.ensures, c.word32-2.ensures, c.word32-3.ensures)
