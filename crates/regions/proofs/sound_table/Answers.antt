-- By the test of 16 that the definition makes. Assumes nothing.
use mathlib.Core.Path.{sym, ◌∙◌}
use Rattle.std.specs.Prelude.{Err}
use Rattle.words.proofs.Tests.{if-true, if-false}
use Rattle.regions.specs.declared.RegionRefusal.TheVariants.{Crossed}
use Rattle.regions.specs.AsCoded.Table.{table_given}
use Rattle.regions.proofs.sound_table.Goals as goal

pub returns-then-not-sound : goal.returns-then-not-sound
returns-then-not-sound c =
    let a = c.args in
    if-false (table_given a.first a.n) (Err Crossed) (sym c.sound.ensures ∙ c.if-not-sound.true)

pub returns : goal.returns
returns c =
    let a = c.args in
    if-true (table_given a.first a.n) (Err Crossed) (sym c.sound.ensures ∙ c.if-not-sound.false)
