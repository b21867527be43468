-- The lines of frames: all but the last, and the last.
-- Assumes nothing.
use Prim.Native.Nat.{ℕ, ◌+◌}
use mathlib.Core.Path.{◌≡◌, sym, ap, ◌∙◌}
use mathlib.Core.List.{List, [], ◌∷◌, ◌++◌, append_assoc, append-nil}
use lib.ListN.{length}
use native.Mathlib.Omega.{arith}
use Rattle.walking.specs.declared.Frame.{Frame}
use Rattle.listing.specs.Listing.{frame_line, frame_lines}

pub lines-last : (k : ℕ) (fs : List Frame) (f : Frame) → frame_lines k fs ++ frame_line (k + length fs) f ≡ frame_lines k (fs ++ (f ∷ []))
unfolding frame_lines
lines-last k [] f = let e : k + 0 ≡ k = omega arith in ap (λ j. frame_line j f) e ∙ sym (append-nil (frame_line k f))
lines-last k (g ∷ fs) f =
    let e : k + length (g ∷ fs) ≡ k + 1 + length fs = omega arith in
    append_assoc (frame_line k g) (frame_lines (k + 1) fs) (frame_line (k + length (g ∷ fs)) f)
    ∙ ap (λ m. frame_line k g ++ m) (ap (λ j. frame_lines (k + 1) fs ++ frame_line j f) e ∙ lines-last (k + 1) fs f)
