-- The name, and what follows it.
-- Assumes nothing.
use Rattle.text.specs.Text.{hex8}
use Rattle.text.proofs.Overlaid.{joined, laid_as}
use Rattle.caller_text.proofs.Lines.{line-is}
use Rattle.caller_text.proofs.put_named.Goals as goal

pub returns : goal.returns
returns c = let a = c.args in laid_as (line-is a.name.now (hex8 a.value)) (joined c.put_text-next.ensures c.put_value.ensures)
