-- The loop's invariant: all scope words have Res 0 exactly if those from k on do. Assumes nothing.
use mathlib.Core.Path.{sym, ◌∙◌}
use Rattle.xdata.proofs.Scopes.{res-done, res-stops, res-goes-on}
use Rattle.xdata.proofs.res_zero.Goals as goal

pub returns-then-bits-ne0 : goal.returns-then-bits-ne0
returns-then-bits-ne0 c =
    let a = c.args in
    let l = c.loop-k in
    let z = rw c.bits.ensures.0 at c.if-bits-ne0.true in
    sym (l.invariant ∙ res-stops a.xdata.now a.at l.k a.n _ c.loop-k-test.true c.word32_in.ensures z)

pub loop-k-preserved : goal.loop-k-preserved
loop-k-preserved c =
    let a = c.args in
    let l = c.loop-k in
    let z = rw c.bits.ensures.0 at c.if-bits-ne0.false in
    l.invariant ∙ res-goes-on a.xdata.now a.at l.k a.n _ c.loop-k-test.true c.word32_in.ensures z

pub returns : goal.returns
returns c =
    let a = c.args in
    let l = c.loop-k in
    sym (l.invariant ∙ res-done a.xdata.now a.at l.k a.n c.loop-k-test.false)
