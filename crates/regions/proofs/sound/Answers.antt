-- The loop's invariant: the table is sound exactly if its regions from k on are, each held against those behind it. Assumes nothing.
use Prim.Native.Nat.{◌-◌}
use mathlib.Core.Path.{◌≡◌, sym, ap, ◌∙◌}
use native.Mathlib.Omega.{arith}
use Rattle.regions.specs.Region.{regions_from, sound}
use Rattle.regions.proofs.Rows.{sound-done, sound-fallen, sound-crossed, sound-goes-on}
use Rattle.regions.proofs.sound.Goals as goal

pub loop-k-init : goal.loop-k-init
loop-k-init c =
    let a = c.args in
    let z : a.n ≡ a.n - 0 = omega arith in
    ap (λ m. sound (regions_from a.xdata.now a.first 0 m)) z

pub returns-then-not-upright : goal.returns-then-not-upright
returns-then-not-upright c =
    let a = c.args in
    let l = c.loop-k in
    let q = c.read-r in
    let h = c.loop-k-test.true in
    let t = sym c.upright.ensures ∙ c.if-not-upright.true in
    sym (l.invariant ∙ sound-fallen q.result a.xdata.now a.first l.k a.n h q.ensures t)

pub returns-then-not-clear_of : goal.returns-then-not-clear_of
returns-then-not-clear_of c =
    let a = c.args in
    let l = c.loop-k in
    let q = c.read-r in
    let h = c.loop-k-test.true in
    let t = sym c.upright.ensures ∙ c.if-not-upright.false in
    let u = c.if-not-clear_of.true in
    sym (l.invariant ∙ sound-crossed q.result a.xdata.now a.first l.k a.n h q.ensures t _ c.clear_of.ensures u)

pub loop-k-preserved : goal.loop-k-preserved
loop-k-preserved c =
    let a = c.args in
    let l = c.loop-k in
    let q = c.read-r in
    let h = c.loop-k-test.true in
    let t = sym c.upright.ensures ∙ c.if-not-upright.false in
    let u = c.if-not-clear_of.false in
    l.invariant ∙ sound-goes-on q.result a.xdata.now a.first l.k a.n h q.ensures t _ c.clear_of.ensures u

pub returns : goal.returns
returns c =
    let a = c.args in
    let l = c.loop-k in
    sym (l.invariant ∙ sound-done a.xdata.now a.first l.k a.n c.loop-k-test.false)
