-- The loop's invariant: the lines of the registers below `i` are laid.
-- Assumes nothing.
use Rattle.text.specs.Text.{numbered}
use Rattle.text.specs.Overlay.{Laid}
use Rattle.caller_text.specs.CallerText.{r_line}
use Rattle.caller_text.proofs.put_integers.Given as goal

abbrev pub invariant-loop-i : goal.invariant-loop-i
invariant-loop-i l = Laid l.initial.out l.at (numbered (r_line l.r) 0 l.i) l.next l.out
