-- The scope of the number is one of the plan's, or there is none.
-- Assumes nothing.
use mathlib.Core.Path.{ap, ◌∙◌}
use lib.ListN.{length}
use Rattle.record.proofs.Shapes.{scopes-inside}
use Rattle.place.specs.AsCoded.Look.{in_scope}
use Rattle.place.proofs.Looking.{here-scope, here-body}
use Rattle.place.proofs.in_here.Goals as goal

pub scope-e-requires : goal.scope-e-requires
scope-e-requires c =
    let a = c.args in
    scopes-inside a.plan.scopes a.at a.plan.count (length a.xdata.now) c.if-at-plan.true c.requires.1

pub returns-then-at-plan : goal.returns-then-at-plan
returns-then-at-plan c =
    let a = c.args in
    let s = a.codes.now in
    c.in_scope.ensures
    ∙ ap (λ n. in_scope s n a.o c.scope-e.result) c.span_of.ensures.0
    ∙ ap (in_scope s a.plan.span a.o) c.scope-e.ensures
    ∙ here-scope s a.xdata.now a.plan.scopes a.plan.span a.o a.plan.count a.at c.if-at-plan.true

pub returns : goal.returns
returns c =
    let a = c.args in
    here-body a.codes.now a.xdata.now a.plan.scopes a.plan.span a.o a.plan.count a.at c.if-at-plan.false
