-- What the text of a FIT file comes to, by what was read; and that it is short.
-- Assumes nothing.
use Rattle.std.specs.Prelude.{Ok, Err}
use Prim.Native.Nat.{ℕ, ◌≤◌}
use mathlib.Core.Path.{◌≡◌, refl, ap}
use mathlib.Core.List.{List, ◌++◌}
use lib.ListN.{length, length-append}
use native.Mathlib.Omega.{arith}
use Rattle.words.specs.declared.Refusal.{Refusal}
use Rattle.words.specs.Refusals.{number}
use Rattle.text.specs.Text.{text, hex8}
use Rattle.text.specs.Overlay.{overlay, Laid}
use Rattle.text.proofs.Overlaid.{from_start, laid_as}
use Rattle.text.proofs.Numbers.{decimal-limit, decimal-small, hex8-length}
use Rattle.fitting.specs.Fitting.{Fitted, fitted}
use Rattle.fitting.specs.declared.FitRefusal.{FitRefusal}
use Rattle.fitting.specs.declared.FitRefusal.TheVariants.{Record, Short, Differs}
use Rattle.fit_file.specs.FitFile.{FitFile, fit_file}
use Rattle.fits_text.specs.FitsText.{number_text, refusal_text, answer_text, file_fitted, fits_text}

-- a refusal's text, by its case
pub record-text : {f : FitRefusal} {r : Refusal} → f ≡ Record r → number_text f ≡ refusal_text f
record-text e = rw e refl

pub short-text : {f : FitRefusal} → f ≡ Short → number_text f ≡ refusal_text f
short-text e = rw e refl

pub differs-text : {f : FitRefusal} {o : ℕ} → f ≡ Differs o → number_text f ++ text " at " ++ hex8 o ≡ refusal_text f
differs-text e = rw e refl

-- the answer, by what was read
pub fitted-given : (s : List ℕ) {f : FitFile} → fit_file s ≡ Ok f → fitted f.xdata f.word f.code ≡ file_fitted s
unfolding file_fitted
fitted-given s e = rw e refl

pub fitted-refused : (s : List ℕ) {r : Refusal} → fit_file s ≡ Err r → Err (Record r) ≡ file_fitted s
unfolding file_fitted
fitted-refused s e = rw e refl

answer-length : (f : Fitted) → length (answer_text f) ≤ 31
answer-length (Ok u) = omega arith
answer-length (Err (Record r)) = simp length-append (omega (arith, decimal-limit (number r)))
answer-length (Err Short) = simp length-append (omega (arith, decimal-limit 18))
answer-length (Err (Differs o)) = simp length-append (omega (arith, decimal-small 17 (omega arith), hex8-length o))

-- a line laid from the buffer's start, as the contract says it
pub shown :
    (s : List ℕ) {f : Fitted} {b o : List ℕ} {r : ℕ} → f ≡ file_fitted s → Laid b 0 (answer_text f ++ text "\n") r o
    → ((r ≡ length (fits_text s)) × (o ≡ overlay b 0 (fits_text s))) × (r ≤ 32)
unfolding fits_text
shown s {f} e h =
    let t = answer_text (file_fitted s) in
    let l : length (t ++ text "\n") ≤ 32 = omega (arith, length-append t (text "\n"), answer-length (file_fitted s)) in
    let k = from_start (omega (arith, l)) (laid_as (ap (λ x. answer_text x ++ text "\n") e) h) in
    (k, omega (arith, k.0, l))
