-- By the test of X that the definition makes. Assumes nothing.
use Prim.Native.Nat.{◌+◌}
use mathlib.Core.Path.{sym, ap, ◌∙◌}
use Rattle.words.proofs.Tests.{if-true, if-false}
use Rattle.lent.specs.Lent.{lent}
use Rattle.xdata.specs.Xdata.{handled}
use Rattle.regions.specs.AsCoded.Table.{table_given, table_read}
use Rattle.regions.proofs.table_after.Goals as goal

pub returns-then-handled : goal.returns-then-handled
returns-then-handled c =
    let a = c.args in
    let t = sym (c.handled.ensures ∙ ap handled c.word_at.ensures) ∙ c.if-handled.true in
    c.table_read.ensures ∙ if-true (table_read (lent a.rva a.xdata.now) (a.at + a.bytes)) (table_given 0 0) t

pub returns : goal.returns
returns c =
    let a = c.args in
    let t = sym (c.handled.ensures ∙ ap handled c.word_at.ensures) ∙ c.if-handled.false in
    if-false (table_read (lent a.rva a.xdata.now) (a.at + a.bytes)) (table_given 0 0) t
