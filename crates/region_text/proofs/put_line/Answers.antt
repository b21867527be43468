-- The spaces and then the words.
-- Assumes nothing.
use mathlib.Core.List.{append_assoc}
use Rattle.text.proofs.Overlaid.{joined, laid_as}
use Rattle.region_text.proofs.put_line.Goals as goal

pub returns : goal.returns
returns c = laid_as (simp append_assoc) (joined c.put_indent-next.ensures c.put_words.ensures)
