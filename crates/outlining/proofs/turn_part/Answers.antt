-- What the tables show is theirs, so the turn in place is the walk's; its text, and where it stands then, are the first of the parts that
-- are left and the others (proofs/Turning.antt).
-- Assumes nothing.
use Rattle.std.specs.Prelude.{Ok, Err}
use Rattle.text.proofs.Overlaid.{laid_as}
use Rattle.outlining.proofs.Frames.{same-part}
use Rattle.outlining.proofs.Turning.{turn-writes, last-writes}
use Rattle.outlining.proofs.turn_part.Goals as goal

pub turn_in-x-requires : goal.turn_in-x-requires
turn_in-x-requires c =
    (c.requires.checks, rw c.stand-s.ensures c.requires.small)

pub put_turn-place-requires : goal.put_turn-place-requires
put_turn-place-requires c = c.requires.table

pub returns-in-Ok : goal.returns-in-Ok
returns-in-Ok c =
    let a = c.args in
    let w = c.turn_in-x in
    rw c.moved.ensures
    (turn-writes _ a.a c.requires _ c.stand-s.ensures w.new.r w.new.d c.in-Ok.going (rw c.in-Ok.is at w.ensures)
    (laid_as (same-part a.a.parts.image a.pdata.now a.a.parts.rva a.xdata.now a.a.parts.base a.stack.now c.stand-s.result (Ok c.in-Ok.going)) (rw c.in-Ok.is at c.put_turn-place.ensures)))

pub returns-in-Err : goal.returns-in-Err
returns-in-Err c =
    let a = c.args in
    let w = c.turn_in-x in
    last-writes _ a.a c.requires _ c.stand-s.ensures w.new.r w.new.d _ (rw c.in-Err.is at w.ensures)
    (laid_as (same-part a.a.parts.image a.pdata.now a.a.parts.rva a.xdata.now a.a.parts.base a.stack.now c.stand-s.result (Err c.in-Err.field-0)) (rw c.in-Err.is at c.put_turn-place.ensures))
