-- One text after another.
-- Assumes nothing.
use Rattle.caller_text.specs.CallerText.{unwound_text}
use Rattle.text.proofs.Overlaid.{joined}
use Rattle.caller_text.proofs.put_unwound.Goals as goal

pub returns : goal.returns
unfolding unwound_text
returns c = joined (joined c.put_told-next.ensures c.put_byte-next.ensures) c.put_registers.ensures
