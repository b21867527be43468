-- The buffer is so long that its length comes by a law: to compute it would take all the stack.
-- Assumes nothing.
use mathlib.Core.Path.{sym}
use Rattle.fit_programs.proofs.Zeros.{zeros}
use Rattle.fit_programs.proofs.fits_one.Goals as goal

pub slice_bounds-run_one-end : goal.slice_bounds-run_one-end
slice_bounds-run_one-end g c = sym (zeros 1048577)
