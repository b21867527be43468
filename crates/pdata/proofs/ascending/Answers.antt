-- The loop's invariant: the whole table ascends exactly if the records from the one before i on do, and the last word is that record's. One
-- record, or none, ascends.
-- Assumes nothing.
use Prim.Native.Nat.{◌<◌, ◌+◌, ◌-◌, ◌*◌, ◌≤◌}
use mathlib.Core.Path.{◌≡◌, sym, ap, ◌∙◌}
use native.Mathlib.Omega.{arith}
use Rattle.lent.specs.Little.{word32}
use Rattle.pdata.proofs.Finding.{ascending-stops, ascending-goes-on, ascending_from, ascending-all, ascending-last, start_at, start-up-to, start-above}
use Rattle.pdata.proofs.ascending.Goals as goal

pub loop-i-init : goal.loop-i-init
loop-i-init c =
    let s = c.args.pdata.now in
    (sym (ascending-all s) ∙ ap (ascending_from s 0) (sym c.records-n.ensures), c.word32-last.ensures)

pub returns-then-next-even : goal.returns-then-next-even
returns-then-next-even c =
    let s = c.args.pdata.now in
    let l = c.loop-i in
    let n = c.records-n.result in
    let e : l.i - 1 + 1 ≡ l.i = omega arith in
    let down : start_at s l.i ≤ start_at s (l.i - 1) = start-up-to (word32 s (8 * l.i)) (word32 s (8 * (l.i - 1))) (omega (arith, c.if-next-even.true, c.even.ensures, c.word32_in-next.ensures, l.invariant.1)) in
    sym (l.invariant.0 ∙ ascending-stops s (l.i - 1) n (omega arith) (rw e down))

pub loop-i-preserved : goal.loop-i-preserved
loop-i-preserved c =
    let s = c.args.pdata.now in
    let l = c.loop-i in
    let n = c.records-n.result in
    let e : l.i - 1 + 1 ≡ l.i = omega arith in
    let past : word32 s (8 * (l.i - 1)) < start_at s l.i = start-above (word32 s (8 * l.i)) (word32 s (8 * (l.i - 1))) (omega (arith, c.if-next-even.false, c.even.ensures, c.word32_in-next.ensures, l.invariant.1)) in
    let up : start_at s (l.i - 1) < start_at s (l.i - 1 + 1) = rw e (omega (arith, past)) in
    let f : l.i + 1 - 1 ≡ l.i - 1 + 1 = omega arith in
    let next = ascending-goes-on s (l.i - 1) n (omega arith) up in
    rw f (l.invariant.0 ∙ next, c.word32_in-next.ensures ∙ ap (λ i. word32 s (8 * i)) (sym e))

pub returns : goal.returns
returns c =
    let s = c.args.pdata.now in
    let l = c.loop-i in
    sym (l.invariant.0 ∙ ascending-last s (l.i - 1) c.records-n.result (omega arith))
