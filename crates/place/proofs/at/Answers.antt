-- The record's code bytes, which are few, and its scope words are in the .xdata. Assumes nothing.
use mathlib.Core.Path.{sym}
use Rattle.record.proofs.Shapes.{read-inside, read-listed, read-few}
use Rattle.place.proofs.at.Goals as goal

pub of-requires : goal.of-requires
of-requires c =
    let a = c.args in
    read-inside a.rva a.xdata.now a.word c.in_ok-f.f (sym c.in_ok-f.ensures)

pub in_plan-at-requires : goal.in_plan-at-requires
in_plan-at-requires c =
    let a = c.args in
    let x = a.xdata.now in
    let f = c.in_ok-f.f in
    let e = sym c.in_ok-f.ensures in
    (rw c.of.ensures (read-few a.rva x a.word f e), read-listed a.rva x a.word f e)
