-- The parts of an outline, put end to end, are the outline: the heading stands before the first part alone, since the numbers after it are
-- not 0, and from the beginning what is left to walk is the whole walk.
-- Assumes nothing.
use Rattle.std.specs.Prelude.{Ok, Err}
use Prim.Native.Nat.{ℕ, ◌+◌, ◌<◌}
use mathlib.Core.Path.{◌≡◌, refl, sym, ap, ap₂, ◌∙◌}
use mathlib.Core.List.{List, [], ◌∷◌, ◌++◌, append_assoc, append-nil, flatten}
use lib.ListN.{length}
use borrow.Author.Tests.{ne_eqb}
use native.Mathlib.Omega.{arith}
use Rattle.words.specs.Answer.{Res, either}
use Rattle.unwinding.specs.AsCoded.Turn as General
use Rattle.frame.specs.Frame.{Inputs}
use Rattle.walking.specs.Walk.{arm, Trail, walk}
use Rattle.walking.specs.declared.Frame.{Frame}
use Rattle.report.specs.Report.{Report, report}
use Rattle.text.specs.Text.{text}
use Rattle.listing.specs.Listing.{refused_text, last_of}
use Rattle.outlining.specs.Outlined.{outlined_frame, outlined_frames, heading, outlined_walk, outlined}
use Rattle.outlining.specs.AsCoded.Parts.{opening, parts_from, parts_at, parts}

no-opening : (n : ℕ) → 0 < n → opening n ≡ []
no-opening n h = let no : n ≡ 0 → ⊥ = λ e. omega arith in rw (ne_eqb n 0 no) refl

-- after the first frame
later :
    (t : Inputs) (n k : ℕ) (fs : List Frame) (w : Trail) → 0 < n
    → flatten (parts_from t n k fs w) ≡ outlined_frames t n fs ++ last_of w.stop (n + length fs) (k + w.codes)
unfolding flatten parts_from outlined_frames
later t n k [] w h =
    let e : n ≡ n + 0 = omega arith in
    append-nil (opening n ++ last_of w.stop n (k + w.codes))
    ∙ ap (λ o. o ++ last_of w.stop n (k + w.codes)) (no-opening n h)
    ∙ ap (λ j. last_of w.stop j (k + w.codes)) e
later t n k (f ∷ fs) w h =
    let e : n + 1 + length fs ≡ n + length (f ∷ fs) = omega arith in
    let line = outlined_frame t n f in
    let more = outlined_frames t (n + 1) fs in
    ap₂ (λ o r. o ++ line ++ r) (no-opening n h) (later t (n + 1) k fs w (omega arith))
    ∙ sym (append_assoc line more (last_of w.stop (n + 1 + length fs) (k + w.codes)))
    ∙ ap (λ j. line ++ more ++ last_of w.stop j (k + w.codes)) e

-- from the heading on
headed : (t : Inputs) (fs : List Frame) (w : Trail) → flatten (parts_from t 0 0 fs w) ≡ heading ++ outlined_frames t 0 fs ++ last_of w.stop (length fs) w.codes
unfolding flatten parts_from outlined_frames
headed t [] w =
    let e : 0 + w.codes ≡ w.codes = omega arith in
    append-nil (heading ++ last_of w.stop 0 (0 + w.codes)) ∙ ap (λ c. heading ++ last_of w.stop 0 c) e
headed t (f ∷ fs) w =
    let e : 0 + 1 + length fs ≡ length (f ∷ fs) = omega arith in
    let c : 0 + w.codes ≡ w.codes = omega arith in
    let line = heading ++ outlined_frame t 0 f in
    let more = outlined_frames t (0 + 1) fs in
    ap (λ r. line ++ r) (later t (0 + 1) 0 fs w (omega arith))
    ∙ sym (append_assoc line more (last_of w.stop (0 + 1 + length fs) (0 + w.codes)))
    ∙ ap₂ (λ j k. line ++ more ++ last_of w.stop j k) e c

pub parts-outlined : (s : List ℕ) → flatten (parts s) ≡ outlined s
unfolding flatten parts outlined outlined_walk
parts-outlined s = go (report s)
  where
    go :
        (r : Res Report)
        → flatten (either r (λ r. (refused_text r ++ text "\n") ∷ []) (λ p. parts_at p.inputs (General.begun arm p.regs)))
        ≡ either r (λ r. refused_text r ++ text "\n") (λ p. outlined_walk p.inputs (walk p.inputs 256 p.regs))
    go (Ok p) = headed p.inputs (walk p.inputs 256 p.regs).frames (walk p.inputs 256 p.regs)
    go (Err r) = append-nil (refused_text r ++ text "\n")
