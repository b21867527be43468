-- The loop's invariant: the region crosses none from the first number on exactly if it crosses none from k on. Assumes nothing.
use mathlib.Core.Path.{refl, sym, ◌∙◌}
use Rattle.regions.proofs.Rows.{clear-done, clear-stops, clear-goes-on}
use Rattle.regions.proofs.clear_of.Goals as goal

pub loop-k-init : goal.loop-k-init
loop-k-init c = refl

pub returns-then-cross : goal.returns-then-cross
returns-then-cross c =
    let a = c.args in
    let l = c.loop-k in
    let h = c.loop-k-test.true in
    let t = sym c.cross.ensures ∙ c.if-cross.true in
    sym (l.invariant ∙ clear-stops a.r _ a.xdata.now a.first l.k a.n h c.read.ensures t)

pub loop-k-preserved : goal.loop-k-preserved
loop-k-preserved c =
    let a = c.args in
    let l = c.loop-k in
    let h = c.loop-k-test.true in
    let t = sym c.cross.ensures ∙ c.if-cross.false in
    l.invariant ∙ clear-goes-on a.r _ a.xdata.now a.first l.k a.n h c.read.ensures t

pub returns : goal.returns
returns c =
    let a = c.args in
    let l = c.loop-k in
    sym (l.invariant ∙ clear-done a.r a.xdata.now a.first l.k a.n c.loop-k-test.false)
