-- The listing of a report (RULES 8.3, 8.4); that of RULES 8.13:
--
--   frame pc sp place
--   0 00401002 00020008 prologue
--   1 00402010 00020014 body
--   end frames 2 codes 2
--
-- The last line begins otherwise if the list was full or a frame was refused. A file that is no report has one line (RULES 8.5).
use Rattle.std.specs.Prelude.{ℕ, ◌+◌, List, [], ◌∷◌, ◌++◌, length}
use Prim.Native.String.{String}
use Rattle.words.specs.Refusals.{number}
use Rattle.words.specs.declared.Refusal.{Refusal}
use Rattle.words.specs.declared.Place.{Place}
use Rattle.words.specs.declared.Place.TheVariants.{Leaf, Prologue, Body, Epilogue}
use Rattle.words.specs.Answer.{either}
use Rattle.walking.specs.Walk.{Trail, walk}
use Rattle.walking.specs.declared.Frame.{Frame}
use Rattle.walking.specs.declared.Stop.{Stop}
use Rattle.walking.specs.declared.Stop.TheVariants.{End, Full, Refused}
use Rattle.report.specs.Report.{report}
use Rattle.text.specs.Text.{text, decimal, hex8}

abbrev pub place_name : Place → String
place_name Leaf = "leaf"
place_name Prologue = "prologue"
place_name Body = "body"
place_name Epilogue = "epilogue"

abbrev pub refused_text : Refusal → List ℕ
refused_text r = text "refused " ++ decimal (number r)

abbrev pub stop_text : Stop → List ℕ
stop_text End = text "end"
stop_text Full = text "full"
stop_text (Refused r pc) = refused_text r ++ text " at " ++ hex8 pc

abbrev pub frame_line : ℕ → Frame → List ℕ
frame_line n f =
    decimal n ++ text " " ++ hex8 f.pc ++ text " " ++ hex8 f.sp ++ text " " ++ text (place_name f.place) ++ text "\n"

-- the lines of the frames, the first of which has this number
unfoldable pub frame_lines : ℕ → List Frame → List ℕ
frame_lines n [] = []
frame_lines n (f ∷ fs) = frame_line n f ++ frame_lines (n + 1) fs

-- the last line, of a stop, a number of frames and a sum of codes
abbrev pub last_of : Stop → (frames codes : ℕ) → List ℕ
last_of s n k = stop_text s ++ text " frames " ++ decimal n ++ text " codes " ++ decimal k ++ text "\n"

abbrev pub last_line : Trail → List ℕ
last_line w = last_of w.stop (length w.frames) w.codes

unfoldable pub printed : Trail → List ℕ
printed w = text "frame pc sp place\n" ++ frame_lines 0 w.frames ++ last_line w

-- a report's bytes in, the listing out, of a walk with room for 256 frames (RULES 8.3)
unfoldable pub listing : List ℕ → List ℕ
listing s = either (report s) (λ r. refused_text r ++ text "\n") (λ p. printed (walk p.inputs 256 p.regs))
