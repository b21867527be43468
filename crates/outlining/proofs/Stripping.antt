-- The outline without the lines that begin with a space is the listing (RULES 8.17): a frame's line begins with a digit, the heading and the
-- last line with a letter, and of the lines of regions nothing is left.
-- Assumes nothing.
use Rattle.std.specs.Prelude.{Ok, Err}
use Prim.Native.Nat.{ℕ, ◌+◌, ◌-◌}
use mathlib.Core.Path.{◌≡◌, refl}
use mathlib.Core.List.{List, [], ◌∷◌, ◌++◌}
use Rattle.words.specs.Refusals.{number}
use Rattle.words.specs.declared.Refusal.{Refusal}
use Rattle.words.specs.declared.Place.{Place}
use Rattle.words.specs.declared.Place.TheVariants.{Leaf, Prologue, Body, Epilogue}
use Rattle.words.specs.Answer.{Res, either}
use Rattle.frame.specs.Frame.{Inputs}
use Rattle.walking.specs.Walk.{Trail, walk}
use Rattle.walking.specs.declared.Frame.{Frame}
use Rattle.walking.specs.declared.Stop.{Stop}
use Rattle.walking.specs.declared.Stop.TheVariants.{End, Full, Refused}
use Rattle.report.specs.Report.{Report, report}
use Rattle.text.specs.Text.{text}
use Rattle.listing.specs.Listing.{place_name, refused_text, stop_text, frame_line, frame_lines, last_of, printed, listing}
use Rattle.outlining.specs.Outlined.{regions_at, outlined_frames, heading, outlined_walk, outlined}
use Rattle.outlining.specs.Stripped.{start, kept, stripped_from, stripped}
use Rattle.outlining.proofs.Leaving.{Leaves, Kept, whole, both, then-gone, decimal-start, decimal-kept, hex-kept}
use Rattle.outlining.proofs.Indenting.{regions-gone}

space : Leaves kept (text " ") kept (text " ")
unfolding stripped_from
space = record { so = λ rest. refl }

newline : Leaves kept (text "\n") start (text "\n")
unfolding stripped_from
newline = record { so = λ rest. refl }

-- ---- a frame's line
place_kept : (p : Place) → Leaves kept (text (place_name p)) kept (text (place_name p))
unfolding stripped_from
place_kept Leaf = record { so = λ rest. refl }
place_kept Prologue = record { so = λ rest. refl }
place_kept Body = record { so = λ rest. refl }
place_kept Epilogue = record { so = λ rest. refl }

frame-kept : (n : ℕ) (f : Frame) → Kept (frame_line n f)
frame-kept n f =
    let at = both (both (both (decimal-start n) space) (hex-kept f.pc)) space in
    both (both (both (both at (hex-kept f.sp)) space) (place_kept f.place)) newline

-- ---- the last line
refused-start : (r : Refusal) → Leaves start (refused_text r) kept (refused_text r)
unfolding stripped_from
refused-start r =
    let word : Leaves start (text "refused ") kept (text "refused ") = record { so = λ rest. refl } in
    both {s = text "refused "} {l = text "refused "} word (decimal-kept (number r))

stop-start : (s : Stop) → Leaves start (stop_text s) kept (stop_text s)
unfolding stripped_from
stop-start End = record { so = λ rest. refl }
stop-start Full = record { so = λ rest. refl }
stop-start (Refused r pc) =
    let at : Leaves kept (text " at ") kept (text " at ") = record { so = λ rest. refl } in
    both {s = refused_text r ++ text " at "} {l = refused_text r ++ text " at "} (both {s = refused_text r} {l = refused_text r} (refused-start r) at) (hex-kept pc)

last-kept : (s : Stop) (n k : ℕ) → Kept (last_of s n k)
unfolding stripped_from
last-kept s n k =
    let frames : Leaves kept (text " frames ") kept (text " frames ") = record { so = λ rest. refl } in
    let codes : Leaves kept (text " codes ") kept (text " codes ") = record { so = λ rest. refl } in
    both (both (both (both (both (stop-start s) frames) (decimal-kept n)) codes) (decimal-kept k)) newline

-- ---- frames with their regions, a walk, a report
frames-left : (t : Inputs) (n : ℕ) (fs : List Frame) → Leaves start (outlined_frames t n fs) start (frame_lines n fs)
unfolding outlined_frames frame_lines
frames-left t n [] = record { so = λ rest. refl }
frames-left t n (f ∷ fs) = both (then-gone (frame-kept n f) (regions-gone (f.pc - t.image) (regions_at t f.pc f.place))) (frames-left t (n + 1) fs)

heading-kept : Kept heading
unfolding stripped_from
heading-kept = record { so = λ rest. refl }

walk-left : (t : Inputs) (w : Trail) → Leaves start (outlined_walk t w) start (printed w)
unfolding outlined_walk printed
walk-left t w =
    both {s = heading ++ outlined_frames t 0 w.frames} {l = heading ++ frame_lines 0 w.frames}
    (both {s = heading} {l = heading} heading-kept (frames-left t 0 w.frames))
    (last-kept w.stop _ w.codes)

outlined-left : (s : List ℕ) → Leaves start (outlined s) start (listing s)
unfolding outlined listing
outlined-left s = go (report s)
  where
    go :
        (r : Res Report)
        → Leaves start (either r (λ r. refused_text r ++ text "\n") (λ p. outlined_walk p.inputs (walk p.inputs 256 p.regs))) start
        (either r (λ r. refused_text r ++ text "\n") (λ p. printed (walk p.inputs 256 p.regs)))
    go (Ok p) = walk-left p.inputs (walk p.inputs 256 p.regs)
    go (Err r) = both {s = refused_text r} {l = refused_text r} (refused-start r) newline

pub stripped-listing : (s : List ℕ) → stripped (outlined s) ≡ listing s
stripped-listing s = whole (outlined-left s)
