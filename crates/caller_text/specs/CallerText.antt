-- The caller's text: what is printed of a report's one frame (RULES 8.6):
--
--   caller place prologue handler 00000000 codes 1
--   r0 00000000
--   …
--   r12 00000000
--   sp 00020014
--   lr 00402011
--   pc 00402010
--   d0 0000000000000000
--   …
--   d31 0000000000000000
--
-- A refused frame's first line is `refused R`, with the registers as given; a file that is no report has that line alone (RULES 8.5).
use Rattle.std.specs.Prelude.{ℕ, List, ◌++◌, get_or, Ok, Err}
use Rattle.words.specs.declared.Place.{Place}
use Rattle.words.specs.Answer.{Res, either}
use Rattle.machine.specs.declared.Regs.{Regs}
use Rattle.frame.specs.Frame.{frame, unwound}
use Rattle.frame.specs.declared.Told.{Told}
use Rattle.frame.specs.declared.Unwound.{Unwound}
use Rattle.report.specs.Report.{report}
use Rattle.text.specs.Text.{text, decimal, hex8, hex16, numbered}
use Rattle.listing.specs.Listing.{place_name, refused_text}

-- a register's line: its name, and its value in 8 or 16 hex digits
abbrev pub word_line : (name : List ℕ) → ℕ → List ℕ
word_line name v = name ++ text " " ++ hex8 v ++ text "\n"

abbrev pub double_line : (name : List ℕ) → ℕ → List ℕ
double_line name v = name ++ text " " ++ hex16 v ++ text "\n"

abbrev pub r_line : List ℕ → ℕ → List ℕ
r_line r k = word_line (text "r" ++ decimal k) (get_or r k 0)

abbrev pub d_line : List ℕ → ℕ → List ℕ
d_line d k = double_line (text "d" ++ decimal k) (get_or d k 0)

-- r0 to r12, sp, lr, pc, d0 to d31
unfoldable pub regs_text : Regs → List ℕ
regs_text g =
    numbered (r_line g.r) 0 13 ++ word_line (text "sp") g.sp ++ word_line (text "lr") g.lr ++ word_line (text "pc") g.pc ++ numbered (d_line g.d) 0 32

-- the first line, without its end
abbrev pub given_text : Place → (handler codes : ℕ) → List ℕ
given_text p h n = text "caller place " ++ text (place_name p) ++ text " handler " ++ hex8 h ++ text " codes " ++ decimal n

abbrev pub told_text : Res Told → List ℕ
told_text (Ok c) = given_text c.place c.handler c.codes
told_text (Err r) = refused_text r

unfoldable pub unwound_text : Unwound → List ℕ
unwound_text u = told_text u.told ++ text "\n" ++ regs_text u.regs

-- a report's bytes in, the text out
unfoldable pub caller_text : List ℕ → List ℕ
caller_text s =
    either (report s) (λ r. refused_text r ++ text "\n") (λ p. unwound_text (unwound p.regs (frame p.inputs p.regs)))
