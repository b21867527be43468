-- Each return is one case of `find_rva` by its tests. Assumes nothing.
use mathlib.Core.Path.{sym, ap, ◌∙◌}
use borrow.Author.Tests.{not-true, not-false}
use Rattle.std.specs.Prelude.{Ok}
use Rattle.pdata.proofs.Finding.{rva-unfit, rva-unsorted, rva-sorted}
use Rattle.pdata.proofs.find_rva.Goals as goal

pub returns-then-not-c : goal.returns-then-not-c
returns-then-not-c c =
    let a = c.args in
    let e = c.check-c.ensures in
    sym (rva-unfit a.pdata.now a.rva (sym (ap (λ k. k.fit) e) ∙ not-true c.check-c.result.fit c.if-not-c.true))

pub returns-then-not-c-2 : goal.returns-then-not-c-2
returns-then-not-c-2 c =
    let a = c.args in
    let e = c.check-c.ensures in
    sym (rva-unsorted a.pdata.now a.rva (sym (ap (λ k. k.fit) e) ∙ not-false c.check-c.result.fit c.if-not-c.false) (sym (ap (λ k. k.sorted) e) ∙ not-true c.check-c.result.sorted c.if-not-c-2.true))

pub returns : goal.returns
returns c =
    let a = c.args in
    let e = c.check-c.ensures in
    let up = sym (ap (λ k. k.sorted) e) ∙ not-false c.check-c.result.sorted c.if-not-c-2.false in
    ap Ok (c.search.ensures up)
    ∙ sym (rva-sorted a.pdata.now a.rva (sym (ap (λ k. k.fit) e) ∙ not-false c.check-c.result.fit c.if-not-c.false) up)
