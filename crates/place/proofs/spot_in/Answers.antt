-- The pass is the definition's, and so is the place by it.
-- Assumes nothing.
use mathlib.Core.Path.{ap, ◌∙◌}
use Rattle.record.specs.AsCoded.Plan.{scopes_from}
use Rattle.place.specs.AsCoded.Look.{in_seen, spot_of}
use Rattle.place.proofs.spot_in.Goals as goal

pub returns : goal.returns
unfolding spot_of
returns c =
    let a = c.args in
    c.in_seen.ensures ∙ ap (in_seen a.codes.now a.plan.span (scopes_from a.plan.scopes a.xdata.now 0 a.plan.count) a.o) c.pass-q.ensures
