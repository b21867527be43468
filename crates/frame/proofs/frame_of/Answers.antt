-- What the frame came to in place is answered.
-- Assumes nothing.
use mathlib.Core.Path.{ap, ◌∙◌}
use Rattle.frame.specs.Frame.{unwound}
use Rattle.frame.proofs.frame_of.Goals as goal

pub returns : goal.returns
returns c =
    let a = c.args in
    λ h. c.answered.ensures ∙ ap (unwound a.g) (c.frame_in-u.ensures h)
