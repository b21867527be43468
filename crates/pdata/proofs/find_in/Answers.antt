-- Each return is one case of `find` by its tests; the last is what `search` finds in an ascending table. Assumes nothing.
use Rattle.std.specs.Prelude.{Ok}
use Prim.Native.Nat.{◌-◌, ◌<◌, ◌≤◌}
use mathlib.Core.Path.{sym, ap, ◌∙◌}
use native.Mathlib.Omega.{arith}
use borrow.Author.Tests.{not-true, not-false}
use Rattle.words.specs.Bits.{even}
use Rattle.pdata.specs.Pdata.{entries, last_up_to}
use Rattle.pdata.proofs.Finding.{find-unfit, find-below, find-unsorted, find-sorted}
use Rattle.pdata.proofs.find_in.Goals as goal

pub returns-then-not-checked : goal.returns-then-not-checked
returns-then-not-checked c e =
    let a = c.args in
    sym (find-unfit a.image a.pdata.now a.pc (sym (ap (λ k. k.fit) e) ∙ not-true a.checked.fit c.if-not-checked.true))

pub returns-then-at-image : goal.returns-then-at-image
returns-then-at-image c e =
    let a = c.args in
    let below : even a.pc < a.image = omega (arith, c.even-at.ensures, c.if-at-image.true) in
    sym (find-below a.image a.pdata.now a.pc (sym (ap (λ k. k.fit) e) ∙ not-false a.checked.fit c.if-not-checked.false) below)

pub returns-then-not-checked-2 : goal.returns-then-not-checked-2
returns-then-not-checked-2 c e =
    let a = c.args in
    let above : a.image ≤ even a.pc = omega (arith, c.even-at.ensures, c.if-at-image.false) in
    sym (find-unsorted a.image a.pdata.now a.pc (sym (ap (λ k. k.fit) e) ∙ not-false a.checked.fit c.if-not-checked.false) above (sym (ap (λ k. k.sorted) e) ∙ not-true a.checked.sorted c.if-not-checked-2.true))

pub returns : goal.returns
returns c e =
    let a = c.args in
    let above : a.image ≤ even a.pc = omega (arith, c.even-at.ensures, c.if-at-image.false) in
    let up = sym (ap (λ k. k.sorted) e) ∙ not-false a.checked.sorted c.if-not-checked-2.false in
    ap Ok (c.search.ensures up ∙ ap (λ n. last_up_to (entries a.pdata.now) (n - a.image)) c.even-at.ensures)
    ∙ sym (find-sorted a.image a.pdata.now a.pc (sym (ap (λ k. k.fit) e) ∙ not-false a.checked.fit c.if-not-checked.false) above up)
