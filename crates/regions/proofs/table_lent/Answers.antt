-- By the count word, and by the count. Assumes nothing.
use mathlib.Core.Path.{sym, ◌∙◌}
use native.Mathlib.Omega.{arith}
use borrow.Author.Tests.{lt-leb}
use Rattle.lent.specs.Lent.{lent}
use Rattle.regions.proofs.Tables.{inside, lent-no-count, lent-many, lent-by-count}
use Rattle.regions.proofs.table_lent.Goals as goal

pub returns-then-not-holds : goal.returns-then-not-holds
returns-then-not-holds c =
    let a = c.args in
    lent-no-count (lent a.rva a.xdata.now) a.at (sym c.holds.ensures ∙ c.if-not-holds.true)

pub overflow_add-at : goal.overflow_add-at
overflow_add-at c =
    let a = c.args in
    let h = sym c.holds.ensures ∙ c.if-not-holds.false in
    let i = inside (lent a.rva a.xdata.now) a.at 4 h in
    record { fits = omega (arith, i.1) }

pub returns-then-n-le-MOST_REGIONS : goal.returns-then-n-le-MOST_REGIONS
returns-then-n-le-MOST_REGIONS c =
    let a = c.args in
    let h = sym c.holds.ensures ∙ c.if-not-holds.false in
    c.holds-then-n-le-MOST_REGIONS.ensures ∙ lent-by-count (lent a.rva a.xdata.now) a.at _ c.word_at-n.ensures h c.if-n-le-MOST_REGIONS.true

pub returns-else-n-le-MOST_REGIONS : goal.returns-else-n-le-MOST_REGIONS
returns-else-n-le-MOST_REGIONS c =
    let a = c.args in
    let h = sym c.holds.ensures ∙ c.if-not-holds.false in
    lt-leb _ 64 c.if-n-le-MOST_REGIONS.false ∙ lent-many (lent a.rva a.xdata.now) a.at _ c.word_at-n.ensures h c.if-n-le-MOST_REGIONS.false
