-- The tests of the definition, in the definition's order.
-- Assumes nothing.
use mathlib.Core.Path.{sym, ap, ◌∙◌}
use Rattle.unwinding.proofs.Turns.{turn_is, at-end, at-full, at-refusal, goes}
use Rattle.frame.specs.AsCoded.InPlace.{came_to}
use Rattle.walking.proofs.Turns.{came-codes}
use Rattle.walking.proofs.turn_in.Goals as goal

pub returns-then-s : goal.returns-then-s
returns-then-s c = turn_is _ _ _ _ (at-end c.if-s.true)

pub returns-then-room-at : goal.returns-then-room-at
returns-then-room-at c = turn_is _ _ _ _ (at-full c.if-s.false c.if-room-at.true)

pub advance-requires : goal.advance-requires
advance-requires c =
    let a = c.args in
    let u = c.next_frame-came in
    let small = c.requires.1 in
    (small.rose, small.few, came-codes _ a.s a.r.now a.d.now c.in-Ok.u u.new.r u.new.d (sym (ap (λ x. came_to x u.new.r u.new.d) c.in-Ok.is) ∙ u.ensures))

pub returns-in-Err : goal.returns-in-Err
returns-in-Err c =
    let u = c.next_frame-came in
    rw c.even.ensures (turn_is _ _ _ _ (at-refusal c.in-Err.why c.if-s.false c.if-room-at.false (sym u.ensures ∙ ap (λ x. came_to x u.new.r u.new.d) c.in-Err.is)))

pub returns-in-Ok : goal.returns-in-Ok
returns-in-Ok c =
    let u = c.next_frame-came in
    rw c.advance.ensures (turn_is _ _ _ _ (goes _ c.if-s.false c.if-room-at.false (sym u.ensures ∙ ap (λ x. came_to x u.new.r u.new.d) c.in-Ok.is)))
