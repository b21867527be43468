-- What `frame_in` came to stays as it is but where 13 is given.
-- Assumes nothing.
use mathlib.Core.Path.{sym, ap, ◌∙◌}
use Rattle.std.proofs.lemmas.Result.{err_from_is_err_and}
use Rattle.frame.specs.AsCoded.InPlace.{came_to}
use Rattle.walking.proofs.Next.{refused-stays, first-stays, other-stays, same-is-13}
use Rattle.walking.proofs.next_frame.Goals.{else-not-first-via-then-not-first+else-u-sp, else-not-first-via-else-not-first}
use Rattle.walking.proofs.next_frame.Goals as goal

pub returns-in_err-u : goal.returns-in_err-u
returns-in_err-u c =
    let u = c.frame_in in
    let p = err_from_is_err_and c.from_residual.result c.from_residual.ensures.1 in
    rw (p.1, p.2) (refused-stays _ _ _ _ (sym (ap (λ x. came_to x u.new.r u.new.d) c.in_err-u.was) ∙ u.ensures c.requires))

pub returns-then-u-sp : goal.returns-then-u-sp
returns-then-u-sp c =
    let u = c.frame_in in
    same-is-13 _ _ _ c.in_ok-u.u u.new.r u.new.d (sym (ap (λ x. came_to x u.new.r u.new.d) c.in_ok-u.was) ∙ u.ensures c.requires) c.if-not-first.true c.if-u-sp.true

pub returns : goal.returns
returns c =
    let u = c.frame_in in
    let is = sym (ap (λ x. came_to x u.new.r u.new.d) c.in_ok-u.was) ∙ u.ensures c.requires in
    elim c.else-not-first.branch [
      | else-not-first-via-then-not-first+else-u-sp w ↦ other-stays _ _ _ c.in_ok-u.u u.new.r u.new.d is w.if-not-first.true w.if-u-sp.false
      | else-not-first-via-else-not-first w ↦ first-stays _ _ _ c.in_ok-u.u u.new.r u.new.d is w.if-not-first.false
    ]
