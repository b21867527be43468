-- `reader::skip` meets its contract: each turn's code is skipped, or nothing stands where the skip is to end.
-- Assumes nothing.
use Prim.Native.Nat.{◌-◌, ◌<◌, ◌≤◌}
use mathlib.Core.Path.{sym, ap, subst, ◌∙◌}
use native.Mathlib.Omega.{arith}
use Rattle.words.specs.Units.{code_bytes, halfword_bytes}
use Rattle.unwinding.proofs.Scanning.{take_next}
use Rattle.unwinding.proofs.Skipping.{skip-none, skip-one, skip-inside, skip-last, skip-bad}
use Rattle.codes.specs.Code.{size}
use Rattle.reader.specs.AsCoded.Skip.{skip_at}
use Rattle.codes.proofs.Scanning.{takes}
use Rattle.codes.proofs.Sizing.{told-one, told-last, told-bad}
use Rattle.reader.proofs.skip.Goals as goal

pub returns-then-left-size : goal.returns-then-left-size
returns-then-left-size c =
    let m = c.args.codes.now in
    let l = c.loop-left in
    let w = told-one m (code_bytes l.i) (sym c.size_at-c.ensures ∙ c.in-One.is) in
    let z = c.halfword_bytes-size.ensures.0 ∙ ap halfword_bytes (sym w.2) in
    sym (skip-inside size takes m l.i l.left c.loop-left-test.true w.1 (subst (λ x. l.left < x) z c.if-left-size.true))
    ∙ l.invariant

pub loop-left-smaller : goal.loop-left-smaller
loop-left-smaller c =
    let m = c.args.codes.now in
    let l = c.loop-left in
    let w = told-one m (code_bytes l.i) (sym c.size_at-c.ensures ∙ c.in-One.is) in
    let n = take_next takes m l.i w.1 in
    omega (arith, n.far, n.near)

pub loop-left-preserved : goal.loop-left-preserved
loop-left-preserved c =
    let m = c.args.codes.now in
    let l = c.loop-left in
    let w = told-one m (code_bytes l.i) (sym c.size_at-c.ensures ∙ c.in-One.is) in
    let z = c.halfword_bytes-size.ensures.0 ∙ ap halfword_bytes (sym w.2) in
    ap (λ x. skip_at m c.in-One.next (l.left - x)) z
    ∙ sym (skip-one size takes m l.i l.left c.loop-left-test.true w.1 (subst (λ x. x ≤ l.left) z c.if-left-size.false))
    ∙ l.invariant

pub returns-in-Last : goal.returns-in-Last
returns-in-Last c =
    let m = c.args.codes.now in
    let l = c.loop-left in
    let w = told-last m (code_bytes l.i) (sym c.size_at-c.ensures ∙ c.in-Last.is) in
    sym (skip-last size takes m l.i l.left c.loop-left-test.true w) ∙ l.invariant

pub returns-in-Bad : goal.returns-in-Bad
returns-in-Bad c =
    let m = c.args.codes.now in
    let l = c.loop-left in
    let w = told-bad m (code_bytes l.i) (sym c.size_at-c.ensures ∙ c.in-Bad.is) in
    sym (skip-bad size takes m l.i l.left c.loop-left-test.true w) ∙ l.invariant

pub returns : goal.returns
returns c =
    let m = c.args.codes.now in
    let l = c.loop-left in
    sym (ap (skip_at m (code_bytes l.i)) c.loop-left-test.false ∙ skip-none size takes m l.i) ∙ l.invariant
