-- The pass from index 0 gives the prologue and the size of its list, both small; the rest is the definition's, with its arguments.
-- Assumes nothing.
use mathlib.Core.Path.{sym, ap, ◌∙◌}
use native.Mathlib.Omega.{arith}
use Rattle.words.specs.Units.{code_bytes}
use Rattle.reader.proofs.Sizes.{scanned-ends}
use Rattle.record.specs.AsCoded.Plan.{scopes_from}
use Rattle.place.specs.AsCoded.Look.{look_from, unseen}
use Rattle.place.proofs.Looking.{measured-ends, passed-made, passed-bad}
use Rattle.place.proofs.Placing.{with_seen}
use Rattle.place.proofs.layout.pass.Goals as goal

pub prologue_of-p-requires : goal.prologue_of-p-requires
prologue_of-p-requires c =
    let a = c.args in
    omega (arith, (scanned-ends a.codes.now (code_bytes 0) _ (sym c.in-Ok.ensures)).few, c.requires.0)

pub overflow_add-found : goal.overflow_add-found
overflow_add-found c =
    let a = c.args in
    omega (arith, (scanned-ends a.codes.now (code_bytes 0) _ (sym c.in-Ok.ensures)).few, c.requires.0)

pub bytes_of-first-requires : goal.bytes_of-first-requires
bytes_of-first-requires c =
    let a = c.args in
    omega (arith, (scanned-ends a.codes.now (code_bytes 0) _ (sym c.in-Ok.ensures)).few, c.requires.0)

pub look-seen-requires : goal.look-seen-requires
look-seen-requires c =
    let s = c.args.codes.now in
    let q = sym c.in-Ok.ensures in
    (c.requires, measured-ends s (code_bytes 0) _ _ q c.bytes_of-first.ensures, omega (arith, (scanned-ends s (code_bytes 0) _ q).few, c.requires.0, c.bytes_of-first.ensures))

pub returns-in-Ok : goal.returns-in-Ok
returns-in-Ok c =
    let a = c.args in
    let n = c.prologue_of-p.result in
    let es = scopes_from a.plan.scopes a.xdata.now 0 a.plan.count in
    ap (with_seen n) (c.look-seen.ensures ∙ ap (λ k. look_from a.codes.now a.plan.span a.o 0 k es) (c.unseen-none.ensures ∙ ap (λ m. unseen m n a.plan.count) c.span_of.ensures.0))
    ∙ passed-made a.codes.now a.xdata.now a.plan.scopes a.plan.count a.plan.span a.plan.fragment a.o _ n (sym c.in-Ok.ensures) c.prologue_of-p.ensures

pub returns-in-Err : goal.returns-in-Err
returns-in-Err c =
    let a = c.args in
    passed-bad a.codes.now a.xdata.now a.plan.scopes a.plan.count a.plan.span a.plan.fragment a.o _ (sym c.in-Err.ensures)
