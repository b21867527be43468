-- The outline in parts, as a program writes it: one for each turn of the walk, so that no part is long. Put end to end they are the outline
-- (`parts-outlined` of proofs/Parting.antt).
use Rattle.std.specs.Prelude.{ℕ, ◌+◌, ◌-◌, ◌≤◌, ◌≡◌, false, List, [], ◌∷◌, ◌++◌, eqb, length, if◌then◌else◌, Option, None, Some, IfSome, Result, Ok, Err}
use Rattle.words.specs.Answer.{Res, ◌>>=◌, either}
use Rattle.unwinding.specs.AsCoded.Turn as General
use Rattle.unwinding.specs.Trail as AnyTrail
use Rattle.pdata.specs.Pdata as Pdata
use Rattle.frame.specs.Frame.{Inputs, checked}
use Rattle.walking.specs.declared.Frame.{Frame}
use Rattle.walking.specs.Walk.{arm, frames, Trail}
use Rattle.walking.specs.declared.Standing.{Standing}
use Rattle.walking.specs.declared.Going.{Going}
use Rattle.walking.specs.declared.Stop.{Stop}
use Rattle.walking.specs.AsCoded.InPlace.{SmallIn}
use Rattle.report.specs.declared.Parts.{Parts}
use Rattle.report.specs.Report.{report}
use Rattle.report.specs.AsCoded.Parts as Report
use Rattle.report.specs.AsCoded.Parts.{inputs_in, Lie}
use Rattle.text.specs.Text.{text}
use Rattle.text.specs.Overlay.{Laid}
use Rattle.listing.specs.Listing.{refused_text, last_of}
use Rattle.listing.specs.AsCoded.Turns.{turn_text}
use Rattle.outlining.specs.declared.At.{At}
use Rattle.outlining.specs.declared.Part.{Part}
use Rattle.outlining.specs.Outlined.{heading, region_lines, outlined_frame}

-- the heading stands before the first part
abbrev pub opening : (number : ℕ) → List ℕ
opening n = if eqb n 0 then heading else []

-- the parts of a walk's rest, of which n frames and k codes are behind
unfoldable pub parts_from : Inputs → (n k : ℕ) → List Frame → Trail → List (List ℕ)
parts_from t n k [] w = (opening n ++ last_of w.stop n (k + w.codes)) ∷ []
parts_from t n k (f ∷ fs) w = (opening n ++ outlined_frame t n f) ∷ parts_from t (n + 1) k fs w

-- what is left to walk from where it stands
abbrev pub rest_of : Inputs → (s : General.Standing arm) → Trail
rest_of t s =
    if s.end then AnyTrail.stopped arm arm.ended else AnyTrail.walk_from arm (frames t) (256 - s.frames) (eqb s.frames 0) s.at

abbrev pub parts_at : Inputs → General.Standing arm → List (List ℕ)
parts_at t s = parts_from t s.frames s.codes (rest_of t s).frames (rest_of t s)

-- the parts of a report's outline
unfoldable pub parts : List ℕ → List (List ℕ)
parts s = either (report s) (λ r. (refused_text r ++ text "\n") ∷ []) (λ p. parts_at p.inputs (General.begun arm p.regs))

-- where an outline stands, as the code has it
abbrev pub standing_at : At → General.Standing arm
standing_at a = record { at = a.regs; end = a.end; frames = a.frames; codes = a.codes }

abbrev pub inputs_at : List ℕ → At → Inputs
inputs_at file a = inputs_in file a.parts

-- what a turn prints, with the regions of its frame
abbrev pub turn_lines : Inputs → Result Going Stop → List ℕ
turn_lines t (Ok x) = region_lines t x.frame
turn_lines t (Err stop) = []

abbrev pub turn_part : Inputs → Standing → Result Going Stop → List ℕ
turn_part t s x = opening s.frames ++ turn_text s x ++ turn_lines t x

-- where an outline stands after a turn that left these registers
abbrev pub next_at : At → Standing → (r d : List ℕ) → At
next_at a n r d = record {
  parts = a.parts;
  checked = a.checked;
  starts = a.starts;
  regs = record { r = r; sp = n.sp; lr = n.lr; pc = n.pc; d = d };
  end = n.end;
  frames = n.frames;
  codes = n.codes;
}

-- what a turn may rest on: the tables' checks are theirs, the sums are small
pub record Stands (t : Inputs) (a : At) : Type 0 where
  pub checks : a.checked ≡ checked t
  pub table : a.starts ≡ Pdata.checked t.pdata
  pub small : SmallIn (standing_at a)
  pub room : a.frames ≤ 256

-- where an outline stands behind a part: over the same report, one frame further
pub record Follows (t : Inputs) (a n : At) : Type 0 where
  pub same : n.parts ≡ a.parts
  pub stands : Stands t n
  pub further : n.frames ≡ a.frames + 1

-- the parts that are left where the outline goes on, if it does
abbrev pub parts_after : Inputs → Option At → List (List ℕ)
parts_after t None = []
parts_after t (Some n) = parts_at t (standing_at n)

-- a turn's part is laid at a place of the buffer, and the parts that are left are it and those that are left then
pub record TurnWrites (t : Inputs) (a : At) (buffer : List ℕ) (at : ℕ) (r : Part) (left : List ℕ) : Type 0 where
  pub part : List ℕ
  pub laid : Laid buffer at part r.place left
  pub parts : parts_at t (standing_at a) ≡ part ∷ parts_after t r.next
  pub short : length part ≤ 12288
  pub follows : IfSome r.next (Follows t a)

-- the same over a file in which the parts lie
pub record Ready (file : List ℕ) (a : At) : Type 0 where
  pub lie : Lie file a.parts
  pub stands : Stands (inputs_at file a) a

abbrev pub Writes : (file : List ℕ) → At → (buffer : List ℕ) → (at : ℕ) → Part → (left : List ℕ) → Type 0
Writes file a buffer i r left = TurnWrites (inputs_at file a) a buffer i r left

-- before the first part, of a report with these parts, and of a file
abbrev pub first_at : List ℕ → Parts → At
first_at s p =
    record { parts = p; checked = checked (inputs_in s p); starts = Pdata.checked (inputs_in s p).pdata; regs = p.regs; end = false; frames = 0; codes = 0 }

abbrev pub begun_at : List ℕ → Res At
begun_at s = Report.parts s >>= (λ p. Ok (first_at s p))
