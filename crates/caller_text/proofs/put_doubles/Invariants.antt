-- The loop's invariant: the lines of the registers below `i` are laid.
-- Assumes nothing.
use Rattle.text.specs.Text.{numbered}
use Rattle.text.specs.Overlay.{Laid}
use Rattle.caller_text.specs.CallerText.{d_line}
use Rattle.caller_text.proofs.put_doubles.Given as goal

abbrev pub invariant-loop-i : goal.invariant-loop-i
invariant-loop-i l = Laid l.initial.out l.at (numbered (d_line l.d) 0 l.i) l.next l.out
