-- Four stores, which are what the definitions compute to.
-- Assumes nothing.
use mathlib.Core.Path.{sym}
use lib.ListN.{length-set}
use native.Mathlib.Omega.{arith}
use Rattle.text.specs.Text.{digits}
use Rattle.text.proofs.Overlaid.{overlay-four}
use Rattle.text.proofs.lay_hex4.Goals as goal

pub bounds-out-at-2 : goal.bounds-out-at-2
bounds-out-at-2 c = rw length-set (omega arith)

pub bounds-out-at-3 : goal.bounds-out-at-3
bounds-out-at-3 c = rw (length-set, length-set) (omega arith)

pub bounds-out-at-4 : goal.bounds-out-at-4
bounds-out-at-4 c = rw (length-set, length-set, length-set) (omega arith)

pub returns : goal.returns
unfolding digits
returns c =
    rw (c.digit.ensures, c.digit-2.ensures, c.digit-3.ensures, c.digit-4.ensures)
    (sym (overlay-four _ _ _ _ _ _))
