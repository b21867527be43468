-- Each turn keeps what the loop holds, or ends the walk.
-- Assumes nothing.
use Rattle.std.proofs.Common.{◌<◌, ◌++◌, ◌∷◌, [], length, arith}
use mathlib.Core.Path.{sym, ap, ◌∙◌}
use Rattle.frame.specs.Frame.{inputs}
use Rattle.walking.specs.AsCoded.Turn.{turn_of}
use Rattle.unwinding.proofs.Looping.{less}
use Rattle.walking.proofs.Loop.{within, fewer, midway-on, ended, midway-begins}
use Rattle.walking.proofs.walk.Goals as goal

pub loop-stop-init : goal.loop-stop-init
loop-stop-init c =
    let a = c.args in
    (length a.list.now, [], midway-begins a.image a.pdata.now a.rva a.xdata.now a.base a.stack.now a.g a.list.now c.begin-s.result c.begin-s.ensures)

pub step-requires : goal.step-requires
step-requires c = let h = c.loop-stop.invariant.2 in (h.checks, h.walk.small)

pub returns-in-Err : goal.returns-in-Err
returns-in-Err c =
    let a = c.args in
    let h = c.loop-stop.invariant.2 in
    let t = inputs a.image a.pdata.now a.rva a.xdata.now a.base a.stack.now in
    ended h _ (sym (c.step.ensures ∙ ap (λ n. turn_of t n c.loop-stop.s) h.walk.long) ∙ c.in-Err.is)

pub put-requires : goal.put-requires
put-requires c =
    let a = c.args in
    let h = c.loop-stop.invariant.2 in
    let t = inputs a.image a.pdata.now a.rva a.xdata.now a.base a.stack.now in
    within h _ (sym (c.step.ensures ∙ ap (λ n. turn_of t n c.loop-stop.s) h.walk.long) ∙ c.in-Ok.is)

pub loop-stop-smaller : goal.loop-stop-smaller
loop-stop-smaller c =
    let a = c.args in
    let h = c.loop-stop.invariant.2 in
    let t = inputs a.image a.pdata.now a.rva a.xdata.now a.base a.stack.now in
    let e = sym (c.step.ensures ∙ ap (λ n. turn_of t n c.loop-stop.s) h.walk.long) ∙ c.in-Ok.is in
    let on = midway-on h c.in-Ok.t e in
    let few : less c.loop-stop.invariant.0 < c.loop-stop.invariant.0 = fewer h c.in-Ok.t e in
    rw c.put.ensures (omega (arith, on.walk.room, on.walk.long, h.walk.room, h.walk.long, few))

pub loop-stop-preserved : goal.loop-stop-preserved
loop-stop-preserved c =
    let a = c.args in
    let h = c.loop-stop.invariant.2 in
    let t = inputs a.image a.pdata.now a.rva a.xdata.now a.base a.stack.now in
    let e = sym (c.step.ensures ∙ ap (λ n. turn_of t n c.loop-stop.s) h.walk.long) ∙ c.in-Ok.is in
    (less c.loop-stop.invariant.0, c.loop-stop.invariant.1 ++ (c.in-Ok.t.frame ∷ []), rw c.put.ensures (midway-on h c.in-Ok.t e))
