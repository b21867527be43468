-- The loop's invariant: the bytes gone through are laid.
-- Assumes nothing.
use lib.ListN.{take}
use Rattle.text.specs.Overlay.{Laid}
use Rattle.text.proofs.put_bytes.Given as goal

abbrev pub invariant-loop-b : goal.invariant-loop-b
invariant-loop-b l = Laid l.initial.out l.at (take l.b-index l.s) l.next l.out
