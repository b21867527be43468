-- `load_two` meets its contract: a word that was loaded is within the stack, so that the next address fits.
-- Assumes nothing.
use mathlib.Core.Path.{sym}
use native.Mathlib.Omega.{arith}
use Rattle.machine.proofs.Loading.{load_inside}
use Rattle.machine.proofs.load_two.Goals as goal

pub overflow_add-at : goal.overflow_add-at
overflow_add-at c = omega (arith, load_inside _ _ _ (sym c.in_ok-low.ensures))
