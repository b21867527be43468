-- The largest outline: how much room all of it can need.
-- Assumes nothing.
use Rattle.std.specs.Prelude.{Ok, Err}
use Prim.Native.Nat.{ℕ, ◌+◌, ◌-◌, ◌*◌, ◌≤◌}
use mathlib.Core.Path.{◌≡◌}
use mathlib.Core.Bool.{true}
use mathlib.Core.List.{List, [], ◌∷◌, ◌++◌}
use lib.ListN.{length, length-append}
use native.Mathlib.Omega.{arith}
use Rattle.words.specs.Answer.{Res, either}
use Rattle.unwinding.proofs.Walks.{walk-room}
use Rattle.frame.specs.Frame.{Inputs}
use Rattle.walking.specs.Walk.{arm, frames, Trail, walk}
use Rattle.walking.specs.declared.Frame.{Frame}
use Rattle.report.specs.Report.{Report, report}
use Rattle.text.specs.Text.{text}
use Rattle.text.specs.Overlay.{overlay, Laid}
use Rattle.text.proofs.Overlaid.{from_start}
use Rattle.listing.specs.Listing.{refused_text, frame_line, last_line}
use Rattle.listing.proofs.Sizes.{refused-length, frame-length}
use Rattle.outlining.specs.Outlined.{heading, region_lines, outlined_frame, outlined_frames, outlined_walk, outlined}
use Rattle.outlining.proofs.Sizes.{at-fit, last-length}

frames-length : (t : Inputs) (n : ℕ) (fs : List Frame) → n + length fs ≤ 1000 → length (outlined_frames t n fs) ≤ 10731 * length fs
unfolding outlined_frames
frames-length t n [] h = omega arith
frames-length t n (f ∷ fs) h =
    omega
    (arith, length-append (outlined_frame t n f) (outlined_frames t (n + 1) fs), length-append (frame_line n f) (region_lines t f), frame-length n f (omega arith), at-fit (f.pc - t.image) t f.pc f.place, frames-length t (n + 1) fs (omega arith))

walk-length : (t : Inputs) (w : Trail) → length w.frames ≤ 256 → length (outlined_walk t w) ≤ 2747253
unfolding outlined_walk
walk-length t w h =
    let lines = outlined_frames t 0 w.frames in
    omega
    (arith, length-append (heading ++ lines) (last_line w), length-append heading lines, frames-length t 0 w.frames (omega arith), last-length w.stop (length w.frames) w.codes)

pub outlined-fits : (s : List ℕ) → length (outlined s) ≤ 2747253
unfolding outlined
outlined-fits s = go (report s)
  where
    go : (r : Res Report) → length (either r (λ x. refused_text x ++ text "\n") (λ p. outlined_walk p.inputs (walk p.inputs 256 p.regs))) ≤ 2747253
    go (Ok p) = walk-length p.inputs (walk p.inputs 256 p.regs) (walk-room arm (frames p.inputs) 256 true p.regs)
    go (Err r) = simp length-append (omega (arith, refused-length r))

-- an outline laid from the buffer's start, as the contract says it
pub outlined-laid : (s : List ℕ) {b o : List ℕ} {r : ℕ} → Laid b 0 (outlined s) r o → ((r ≡ length (outlined s)) × (o ≡ overlay b 0 (outlined s))) × (r ≤ 2747253)
outlined-laid s h =
    let f = outlined-fits s in
    let e = from_start (omega arith) h in
    (e, omega arith)
