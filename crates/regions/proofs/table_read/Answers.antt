-- By the test of 15; a table that is lent lies in the .xdata, so its first region does not lie far. Assumes nothing.
use mathlib.Core.Path.{sym, ap, ◌∙◌}
use native.Mathlib.Omega.{arith}
use Rattle.std.specs.Prelude.{Err}
use Rattle.words.proofs.Tests.{if-true, if-false}
use Rattle.lent.specs.Lent.{lent, word_at}
use Rattle.regions.specs.declared.RegionRefusal.TheVariants.{TableOutside}
use Rattle.regions.specs.Table.{first_of}
use Rattle.regions.specs.AsCoded.Table.{sound_table}
use Rattle.regions.proofs.Tables.{lent-inside}
use Rattle.regions.proofs.table_read.Goals as goal

pub returns-then-not-table_lent : goal.returns-then-not-table_lent
returns-then-not-table_lent c =
    let a = c.args in
    let x = lent a.rva a.xdata.now in
    let t = sym c.table_lent.ensures ∙ c.if-not-table_lent.true in
    if-false (sound_table x.bytes (first_of x a.at) (word_at x a.at)) (Err TableOutside) t

pub overflow_add-at : goal.overflow_add-at
overflow_add-at c =
    let a = c.args in
    let t = sym c.table_lent.ensures ∙ c.if-not-table_lent.false in
    record { fits = omega (arith, (lent-inside (lent a.rva a.xdata.now) a.at t).1) }

pub overflow_sub-at : goal.overflow_sub-at
overflow_sub-at c =
    let a = c.args in
    let t = sym c.table_lent.ensures ∙ c.if-not-table_lent.false in
    omega (arith, (lent-inside (lent a.rva a.xdata.now) a.at t).0)

pub sound_table-requires : goal.sound_table-requires
sound_table-requires c =
    let a = c.args in
    let t = sym c.table_lent.ensures ∙ c.if-not-table_lent.false in
    let i = lent-inside (lent a.rva a.xdata.now) a.at t in
    (omega (arith, i.1), omega (arith, i.2, c.word_at-n.ensures))

pub returns : goal.returns
returns c =
    let a = c.args in
    let x = lent a.rva a.xdata.now in
    let t = sym c.table_lent.ensures ∙ c.if-not-table_lent.false in
    c.sound_table.ensures
    ∙ ap (sound_table x.bytes (first_of x a.at)) c.word_at-n.ensures
    ∙ if-true (sound_table x.bytes (first_of x a.at) (word_at x a.at)) (Err TableOutside) t
