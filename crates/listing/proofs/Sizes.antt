-- The largest listing: how much room the walk program needs.
-- Assumes nothing.
use Rattle.std.specs.Prelude.{Ok, Err}
use Prim.Native.Nat.{ℕ, ◌+◌, ◌*◌, ◌≤◌, ◌<◌}
use mathlib.Core.Bool.{true}
use mathlib.Core.List.{List, [], ◌∷◌, ◌++◌}
use lib.ListN.{length, length-append}
use native.Mathlib.Omega.{arith}
use Rattle.words.specs.Refusals.{number}
use Rattle.words.specs.declared.Refusal.{Refusal}
use Rattle.words.specs.declared.Place.{Place}
use Rattle.words.specs.declared.Place.TheVariants.{Leaf, Prologue, Body, Epilogue}
use Rattle.words.specs.Answer.{Res, either}
use Rattle.unwinding.proofs.Walks.{walk-room}
use Rattle.walking.specs.Walk.{arm, frames, Trail, walk}
use Rattle.walking.specs.declared.Frame.{Frame}
use Rattle.walking.specs.declared.Stop.{Stop}
use Rattle.walking.specs.declared.Stop.TheVariants.{End, Full, Refused}
use Rattle.report.specs.Report.{Report, report}
use Rattle.listing.specs.Listing.{place_name, refused_text, stop_text, frame_line, frame_lines, last_line, printed, listing}
use Rattle.text.specs.Text.{text}
use Rattle.text.proofs.Numbers.{decimal-limit, decimal-small, hex8-length}

-- its pieces
pub place-length : (p : Place) → length (text (place_name p)) ≤ 8
place-length Leaf = omega arith
place-length Prologue = omega arith
place-length Body = omega arith
place-length Epilogue = omega arith

pub refused-length : (r : Refusal) → length (refused_text r) ≤ 29
refused-length r = simp length-append (omega (arith, decimal-limit (number r)))

pub stop-length : (s : Stop) → length (stop_text s) ≤ 41
stop-length End = omega arith
stop-length Full = omega arith
stop-length (Refused r pc) = simp length-append (omega (arith, decimal-limit (number r), hex8-length pc))

pub frame-length : (n : ℕ) (f : Frame) → n < 1000 → length (frame_line n f) ≤ 31
frame-length n f h =
    simp length-append (omega (arith, decimal-small n h, hex8-length f.pc, hex8-length f.sp, place-length f.place))

frames-length : (n : ℕ) (fs : List Frame) → n + length fs ≤ 1000 → length (frame_lines n fs) ≤ 31 * length fs
unfolding frame_lines
frames-length n [] h = omega arith
frames-length n (f ∷ fs) h =
    omega (arith, length-append (frame_line n f) (frame_lines (n + 1) fs), frame-length n f (omega arith), frames-length (n + 1) fs (omega arith))

last-length : (w : Trail) → length (last_line w) ≤ 99
last-length w =
    simp length-append (omega (arith, stop-length w.stop, decimal-limit (length w.frames), decimal-limit w.codes))

printed-length : (w : Trail) → length w.frames ≤ 256 → length (printed w) ≤ 8192
unfolding printed
printed-length w h =
    let head = text "frame pc sp place\n" in
    let lines = frame_lines 0 w.frames in
    omega (arith, length-append (head ++ lines) (last_line w), length-append head lines, frames-length 0 w.frames (omega arith), last-length w)

-- the largest listing
pub listing-fits : (s : List ℕ) → length (listing s) ≤ 8192
unfolding listing
listing-fits s = go (report s)
  where
    go : (r : Res Report) → length (either r (λ x. refused_text x ++ text "\n") (λ p. printed (walk p.inputs 256 p.regs))) ≤ 8192
    go (Ok p) = printed-length (walk p.inputs 256 p.regs) (walk-room arm (frames p.inputs) 256 true p.regs)
    go (Err r) = simp length-append (omega (arith, refused-length r))
