-- One text after another.
-- Assumes nothing.
use Rattle.caller_text.specs.CallerText.{regs_text}
use Rattle.text.proofs.Overlaid.{joined}
use Rattle.caller_text.proofs.put_registers.Goals as goal

pub returns : goal.returns
unfolding regs_text
returns c = joined (joined (joined (joined c.put_integers-next.ensures c.put_named-next.ensures) c.put_named-next-2.ensures) c.put_named-next-3.ensures) c.put_doubles.ensures
