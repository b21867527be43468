-- By the X found: the D form, or EC-ED with the list. Assumes nothing.
use mathlib.Core.Path.{sym, ◌∙◌}
use Rattle.packed_codes.proofs.Buffer.{joined}
use Rattle.packed_codes.proofs.Out.pop16.Goals as goal

pub returns-in-None : goal.returns-in-None
returns-in-None c =
    let b = c.before.before.before.before in
    rw (sym b.top_from.ensures ∙ b.in-None.is) (joined _ _ _ c.put-in-None.ensures c.put-in-None-2.ensures)
