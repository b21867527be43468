-- The invariant: what the scopes that are left come to is what all come to.
-- Assumes nothing.
use Rattle.std.proofs.lemmas.Result.{err_from_is_err_and}
use Prim.Native.Nat.{◌+◌, ◌-◌}
use mathlib.Core.Path.{◌≡◌, sym, ap, ◌∙◌}
use lib.ListN.{length}
use native.Mathlib.Omega.{arith}
use Rattle.record.specs.AsCoded.Plan.{scopes_from}
use Rattle.record.proofs.Shapes.{scopes-inside}
use Rattle.comparing.specs.Items.{Compared}
use Rattle.comparing.specs.AsCoded.Passes.{or_else}
use Rattle.fitting.specs.AsCoded.Passes.{scope_pass, scopes_pass}
use Rattle.fitting.proofs.Planned.{pass-done, pass-next}
use Rattle.fitting.proofs.scopes.Goals as goal

pub scope-e-requires : goal.scope-e-requires
scope-e-requires c =
    let a = c.args in
    let n = c.count_of-n in
    scopes-inside a.plan.scopes c.loop-k.k n.result (length a.xdata.now) c.loop-k-test.true (rw n.ensures.0 c.requires.1)

pub returns-in_err-scope : goal.returns-in_err-scope
returns-in_err-scope c =
    let a = c.args in
    let l = c.loop-k in
    let s = a.code.now in
    let k = a.codes.now in
    let x = a.xdata.now in
    let q = a.plan.scopes in
    let span = c.span_of-span.result in
    let n = c.count_of-n.result in
    let found = sym c.in_err-scope.was ∙ c.scope.ensures ∙ ap (scope_pass s k span) c.scope-e.ensures in
    let left = scopes_pass s k span (scopes_from q x (l.k + 1) (n - (l.k + 1))) in
    let p = err_from_is_err_and c.from_residual.result c.from_residual.ensures.1 in
    rw (p.1, p.2) (
    ap (λ (d : Compared). or_else d left) found
    ∙ sym (pass-next s k x q span l.k n c.loop-k-test.true)
    ∙ l.invariant
    ∙ ap (λ z. scopes_pass s k z (scopes_from q x 0 n)) c.span_of-span.ensures.0
    ∙ ap (λ z. scopes_pass s k a.plan.span (scopes_from q x 0 z)) c.count_of-n.ensures.0
    )

pub loop-k-preserved : goal.loop-k-preserved
loop-k-preserved c =
    let a = c.args in
    let l = c.loop-k in
    let s = a.code.now in
    let k = a.codes.now in
    let x = a.xdata.now in
    let q = a.plan.scopes in
    let span = c.span_of-span.result in
    let n = c.count_of-n.result in
    let found = sym c.in_ok-scope.was ∙ c.scope.ensures ∙ ap (scope_pass s k span) c.scope-e.ensures in
    let left = scopes_pass s k span (scopes_from q x (l.k + 1) (n - (l.k + 1))) in
    ap (λ (d : Compared). or_else d left) found ∙ sym (pass-next s k x q span l.k n c.loop-k-test.true) ∙ l.invariant

pub returns : goal.returns
returns c =
    let a = c.args in
    let l = c.loop-k in
    let s = a.code.now in
    let k = a.codes.now in
    let x = a.xdata.now in
    let q = a.plan.scopes in
    let span = c.span_of-span.result in
    let n = c.count_of-n.result in
    let z : n ≡ l.k = omega (arith, l.auto.k-end) in
    sym (pass-done s k x q span l.k n z)
    ∙ l.invariant
    ∙ ap (λ z. scopes_pass s k z (scopes_from q x 0 n)) c.span_of-span.ensures.0
    ∙ ap (λ z. scopes_pass s k a.plan.span (scopes_from q x 0 z)) c.count_of-n.ensures.0
