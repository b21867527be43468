-- `reader::scan` meets its contract: a code's halfwords are added, and an end code, or what is no code, ends what the pass finds.
-- Assumes nothing.
use Prim.Native.Nat.{◌+◌}
use mathlib.Core.Path.{refl, sym, ap, ◌∙◌}
use native.Mathlib.Omega.{arith}
use Rattle.codes.specs.Code.{take_at, scan}
use Rattle.codes.specs.AsCoded.Sizing.{sized}
use Rattle.reader.specs.AsCoded.Reading.{past, scanned}
use Rattle.reader.proofs.Passing.{plus, plus_none, found-one, found-last, found-bad, nearer}
use Rattle.reader.proofs.scan.Goals as goal

pub loop-n-init : goal.loop-n-init
loop-n-init c = rw c.new-r.ensures (refl, plus_none (scanned (scan c.args.codes.now c.args.at)), omega arith)

pub overflow_add-list : goal.overflow_add-list
overflow_add-list c =
    let m = c.args.codes.now in
    let l = c.loop-n in
    let e = sym (c.take-p.ensures.0 ∙ ap (λ m. sized (take_at m l.r.at)) l.invariant.0) ∙ c.in-One.is in
    let w = nearer m l.list l.r.at e in
    omega (arith, w.0, w.1, w.2, l.invariant.2, c.well_formed)

pub returns-in-Last : goal.returns-in-Last
returns-in-Last c =
    let m = c.args.codes.now in
    let l = c.loop-n in
    let e = sym (c.take-p.ensures.0 ∙ ap (λ m. sized (take_at m l.r.at)) l.invariant.0) ∙ c.in-Last.is in
    found-last m l.list l.r.at e ∙ l.invariant.1

pub returns-in-Bad : goal.returns-in-Bad
returns-in-Bad c =
    let m = c.args.codes.now in
    let l = c.loop-n in
    let e = sym (c.take-p.ensures.0 ∙ ap (λ m. sized (take_at m l.r.at)) l.invariant.0) ∙ c.in-Bad.is in
    found-bad m l.list l.r.at e ∙ l.invariant.1

pub loop-n-smaller : goal.loop-n-smaller
loop-n-smaller c =
    let m = c.args.codes.now in
    let l = c.loop-n in
    let here = ap (λ m. sized (take_at m l.r.at)) l.invariant.0 in
    let e = sym (c.take-p.ensures.0 ∙ here) ∙ c.in-One.is in
    let w = nearer m l.list l.r.at e in
    let rest = ap (λ r. r.at.0) c.take-p.ensures.1 ∙ ap (λ t. (past t l.r.at).0) (sym c.take-p.ensures.0 ∙ c.in-One.is) in
    omega (arith, w.0, w.1, rest)

pub loop-n-preserved : goal.loop-n-preserved
loop-n-preserved c =
    let m = c.args.codes.now in
    let l = c.loop-n in
    let i = l.invariant in
    let e = sym (c.take-p.ensures.0 ∙ ap (λ m. sized (take_at m l.r.at)) i.0) ∙ c.in-One.is in
    let w = nearer m l.list l.r.at e in
    let rest = ap (λ r. r.at) c.take-p.ensures.1 ∙ ap (λ t. past t l.r.at) (sym c.take-p.ensures.0 ∙ c.in-One.is) in (
      ap (λ r. r.codes.now) c.take-p.ensures.1 ∙ i.0,
      ap (λ at. plus (l.list + c.in-One.n.0) (scanned (scan m at))) rest ∙ found-one m l.list l.r.at e ∙ i.1,
      omega (arith, w.0, w.2, i.2, ap (λ at. at.0) rest),
    )
