-- One text after another.
-- Assumes nothing.
use mathlib.Core.List.{append-nil}
use Rattle.text.proofs.Overlaid.{joined}
use Rattle.outlining.proofs.put_turn.Goals as goal

pub returns-in-Ok : goal.returns-in-Ok
returns-in-Ok c =
    let is = c.in-Ok.is in
    rw is (joined (joined c.put_opening-next.ensures (rw is at c.put_turn-next.ensures)) c.put_lines.ensures)

pub returns-in-Err : goal.returns-in-Err
returns-in-Err c =
    let is = c.in-Err.is in
    rw (is, append-nil) (joined c.put_opening-next.ensures (rw is at c.put_turn-next.ensures))
