-- `codes::take_as` meets its contract: it goes by the meaning, as the definition does.
-- Assumes nothing.
use mathlib.Core.Path.{sym, ap, ap₂, ◌∙◌}
use Rattle.codes.specs.Table.{row_of}
use Rattle.codes.specs.Code.{taken}
use Rattle.codes.specs.declared.Taken.TheVariants.{One, Last}
use Rattle.codes.proofs.take_as.Goals as goal

pub returns-in-Does : goal.returns-in-Does
returns-in-Does c =
    let p = c.requires in
    let a = c.args in
    ap₂ (λ s n. One (record { undo = c.in-Does.undo; size = s }) n) p.0 p.1
    ∙ ap (taken a.at.0 (row_of a.b)) (sym c.in-Does.is ∙ c.means-m.ensures)

pub returns-in-End : goal.returns-in-End
returns-in-End c =
    let a = c.args in
    ap Last c.requires.0
    ∙ ap (taken a.at.0 (row_of a.b)) (sym c.in-End.is ∙ c.means-m.ensures)

pub returns-in-Undefined : goal.returns-in-Undefined
returns-in-Undefined c =
    let a = c.args in
    ap (taken a.at.0 (row_of a.b)) (sym c.in-Undefined.is ∙ c.means-m.ensures)
