-- `undo_one` meets its contract: the effect's refusal is the code's, and what was undone counts where SP stands, so that SP fits.
-- Assumes nothing.
use Rattle.std.proofs.lemmas.Result.{err_from_is_err_and}
use Rattle.machine.specs.Step.{step}
use Rattle.machine.proofs.undo_one.Goals as goal

pub returns-in_err-u : goal.returns-in_err-u
unfolding step
returns-in_err-u c pc =
    let p = err_from_is_err_and c.from_residual.result c.from_residual.ensures.1 in
    rw (p.1, p.2) (simp (← c.in_err-u.ensures pc))

pub returns-then-stands : goal.returns-then-stands
unfolding step
returns-then-stands c pc = simp (← c.in_ok-u.ensures pc, ← c.stands.ensures, c.if-stands.true)

pub returns : goal.returns
unfolding step
returns c pc = simp (← c.in_ok-u.ensures pc, ← c.stands.ensures, c.if-stands.false)
