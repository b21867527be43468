-- Codes beside their first bytes are taken as codes are: one code, and then the rest; and without those bytes they are the record's view.
-- Assumes nothing.
use Rattle.std.specs.Prelude.{Ok}
use Prim.Native.Nat.{ℕ, ◌+◌}
use mathlib.Core.Path.{◌≡◌, refl, sym, ap, ap₂, ◌∙◌}
use mathlib.Core.List.{List, [], ◌∷◌, map}
use lib.ListN.{get_or, drop}
use lib.Seq.{get_or-drop}
use native.Mathlib.Omega.{arith}
use Rattle.words.specs.Units.{code_bytes, halfword_bytes}
use Rattle.words.specs.declared.CodeBytes.{CodeBytes}
use Rattle.words.specs.declared.Halfwords.{Halfwords}
use Rattle.unwinding.specs.CodeList.{total}
use Rattle.unwinding.specs.Shape.{Shape}
use Rattle.unwinding.specs.Taking.{Taken as AnyTaken, one, last, bad, nothing, follow}
use Rattle.unwinding.specs.View.{view}
use Rattle.unwinding.proofs.Scanning.{Takes, scan_step}
use Rattle.unwinding.proofs.Mapping.{mapped, taken_of, scan_of, codes_of, view_of, scan-mapped, codes-mapped, total-mapped, view-mapped}
use Rattle.codes.specs.Code.{size, take_at, seen, taking, bytes_of, scan, codes_at}
use Rattle.codes.specs.declared.Code.{Code}
use Rattle.codes.specs.declared.Taken.{Taken}
use Rattle.codes.specs.declared.Taken.TheVariants.{One, Last, Bad}
use Rattle.codes.proofs.Scanning.{takes}
use Rattle.comparing.specs.Items.{Coded, size_of, with_first, taking_coded, scan_coded, coded_at}

abbrev pub coded : Code → ℕ → Coded
coded c b = record { code = c; first = b }

-- what is taken with its first byte is the code that is taken
without : (b : ℕ) (x : AnyTaken Code) → taken_of (λ (d : Coded). d.code) (with_first b x) ≡ x
without b (one c next) = refl
without b (last n) = refl
without b (bad i) = refl

alike : (at : ℕ) (l : List ℕ) → taken_of (λ (d : Coded). d.code) (taking_coded at l) ≡ taking at l
alike at l = without (get_or l 0 0) (taking at l)

pub takes-coded : Takes taking_coded bytes_of
takes-coded = record {
  empty = λ at. ap (with_first 0) (takes.empty at);
  code = λ at b s d next e. takes.code at b s d.code next (sym (alike at (b ∷ s)) ∙ ap (taken_of (λ (x : Coded). x.code)) e);
}

-- code lists with first bytes are code lists, without them
pub codes-coded : (s : List ℕ) (i : CodeBytes) → mapped (codes_of (λ (d : Coded). d.code)) (coded_at s i) ≡ codes_at s i
codes-coded = codes-mapped (λ (d : Coded). d.code) taking_coded taking bytes_of alike

-- the codes of a list, and its size, are those of the list with first bytes
pub scan-coded : (s : List ℕ) (i : CodeBytes) → scan_of (λ (d : Coded). d.code) (scan_coded s i) ≡ scan s i
scan-coded = scan-mapped (λ (d : Coded). d.code) taking_coded taking bytes_of alike

pub total-coded : (l : List Coded) → total size_of l ≡ total size (map (λ (d : Coded). d.code) l)
total-coded = total-mapped (λ (d : Coded). d.code) size coded_at codes_at codes-coded

-- and so is a record's view
pub view-coded : (s : Shape) → mapped (view_of (λ (d : Coded). d.code)) (view size_of coded_at s) ≡ view size codes_at s
view-coded = view-mapped (λ (d : Coded). d.code) size coded_at codes_at codes-coded

-- by what stands at an index
module _ (s : List ℕ) (i : ℕ) where
  front : get_or (drop i s) 0 0 ≡ get_or s i 0
  front = get_or-drop i s 0 0 ∙ ap (λ k. get_or s k 0) (let z : i + 0 ≡ i = omega arith in z)

  by : {x : Taken Code} → take_at s (code_bytes i) ≡ x → scan_coded s (code_bytes i) ≡ follow (with_first (get_or s i 0) (seen x)) (scan_coded s)
  by e = scan_step takes-coded s i ∙ ap₂ (λ b x. follow (with_first b (seen x)) (scan_coded s)) front e

  pub scan-one :
      {c : Code} {next : CodeBytes} → take_at s (code_bytes i) ≡ One c next
      → scan_coded s (code_bytes i) ≡ record { list = coded c (get_or s i 0) ∷ (scan_coded s next).list; ending = (scan_coded s next).ending }
  scan-one e = by e

  pub scan-last : {n : Halfwords} → take_at s (code_bytes i) ≡ Last n → scan_coded s (code_bytes i) ≡ record { list = []; ending = Ok (halfword_bytes n) }
  scan-last e = by e

  pub scan-bad : {j : CodeBytes} → take_at s (code_bytes i) ≡ Bad j → scan_coded s (code_bytes i) ≡ nothing j
  scan-bad e = by e

-- what was taken with its first byte was taken without it
pub taken-one : (i : ℕ) (l : List ℕ) {d : Coded} {next : CodeBytes} → taking_coded i l ≡ one d next → taking i l ≡ one d.code next
taken-one i l e = sym (alike i l) ∙ ap (taken_of (λ (x : Coded). x.code)) e

pub taken-last : (i : ℕ) (l : List ℕ) {n : ℕ} → taking_coded i l ≡ last n → taking i l ≡ last n
taken-last i l e = sym (alike i l) ∙ ap (taken_of (λ (x : Coded). x.code)) e
