-- A turn goes on with what is seen then, and where there is no scope more, what was seen is all.
-- Assumes nothing.
use Prim.Native.Nat.{◌+◌, ◌-◌}
use mathlib.Core.Path.{◌≡◌, sym, ap, ◌∙◌}
use mathlib.Core.List.{[]}
use Rattle.std.proofs.lemmas.Result.{err_from_is_err_and}
use Rattle.record.specs.AsCoded.Plan.{scopes_from}
use Rattle.record.proofs.Shapes.{scopes-done}
use Rattle.place.specs.AsCoded.Look.{see, look_from}
use Rattle.place.proofs.Looking.{turn-made, turn-bad, look_none}
use Rattle.place.proofs.layout.look.Goals as goal

pub returns-in_err-size : goal.returns-in_err-size
returns-in_err-size c =
    let a = c.args in
    let x = a.xdata.now in
    let q = a.plan.scopes in
    let n = c.count_of-n.result in
    let l = c.loop-k in
    let p = err_from_is_err_and c.from_residual.result c.from_residual.ensures.1 in
    rw (p.1, p.2)
    (turn-bad a.codes.now x q c.span_of-span.result a.o l.s l.k n c.loop-k-test.true c.scope-e.result c.scope-e.ensures _ (sym c.in_err-size.ensures.0) ∙ l.invariant.0
    ∙ ap (λ z. look_from a.codes.now z a.o 0 a.seen (scopes_from q x 0 n)) c.span_of-span.ensures.0
    ∙ ap (λ z. look_from a.codes.now a.plan.span a.o 0 a.seen (scopes_from q x 0 z)) c.count_of-n.ensures.0)

pub loop-k-preserved : goal.loop-k-preserved
loop-k-preserved c =
    let a = c.args in
    let x = a.xdata.now in
    let q = a.plan.scopes in
    let n = c.count_of-n.result in
    let span = c.span_of-span.result in
    let l = c.loop-k in
    let k = l.k in (
      ap (λ z. look_from a.codes.now span a.o (k + 1) z (scopes_from q x (k + 1) (n - (k + 1)))) (c.see-s.ensures ∙ ap (see span a.o k l.s) c.epilogue_span.ensures.0)
          ∙ turn-made a.codes.now x q span a.o l.s k n c.loop-k-test.true c.scope-e.result c.scope-e.ensures _ (sym c.in_ok-size.ensures.0)
          ∙ l.invariant.0,
      sym c.in_ok-size.ensures.0,
      c.in_ok-size.ensures.1,
    )

pub returns : goal.returns
returns c =
    let a = c.args in
    let x = a.xdata.now in
    let q = a.plan.scopes in
    let n = c.count_of-n.result in
    let span = c.span_of-span.result in
    let l = c.loop-k in
    let k = l.k in
    let e : scopes_from q x k (n - k) ≡ [] = scopes-done q x k n c.loop-k-test.false in
    sym (ap (look_from a.codes.now span a.o k l.s) e ∙ look_none a.codes.now span a.o k l.s) ∙ l.invariant.0
    ∙ ap (λ z. look_from a.codes.now z a.o 0 a.seen (scopes_from q x 0 n)) c.span_of-span.ensures.0
    ∙ ap (λ z. look_from a.codes.now a.plan.span a.o 0 a.seen (scopes_from q x 0 z)) c.count_of-n.ensures.0
