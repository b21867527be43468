-- Order 3 of document 02: whether a record fits its code (RULES section 13), asked of any checker.
use Rattle.std.specs.Prelude.{ℕ, ◌≤◌, ◌≡◌, ◌⊎◌, Bool, true, false, not, List, ◌++◌, Ok, Err}
use Rattle.words.specs.Refusals.{number}
use Rattle.lent.specs.Lent.{Lent}
use Rattle.unwinding.specs.Extent.{of_extent}
use Rattle.xdata.specs.Xdata.{fit_xdata}
use Rattle.fitting.specs.Fitting.{fit_number, Fitted, fitted}
use Rattle.fitting.specs.Exactly.{Exactly}
use Rattle.fitting.specs.declared.FitRefusal.{FitRefusal}
use Rattle.fitting.specs.declared.FitRefusal.TheVariants.{Record, Short, Differs}
use Rattle.fits_text.specs.FitsText.{fits_text}
use Rattle.demands.specs.Demand1.{More}

-- what a checker answers: whether the record that word 1 leads to fits a function's code; the text of a FIT file
pub record Checker : Type 0 where
  pub fits : (xdata : Lent) → (word : ℕ) → (code : List ℕ) → Fitted
  pub text : (file : List ℕ) → List ℕ

abbrev pub ours_of_fits : Checker
ours_of_fits = record { fits = fitted; text = fits_text }

-- an answer that does not say that something is not lent
abbrev pub lasts : Fitted → Bool
lasts (Ok u) = true
lasts (Err (Record r)) = not (of_extent (number r))
lasts (Err Short) = false
lasts (Err (Differs o)) = true

-- 1, 4 to 7, 17 or 18 (RULES 9.59)
abbrev pub FitNumber : ℕ → Type 0
FitNumber k = (k ≡ 1) ⊎ ((4 ≤ k) × (k ≤ 7)) ⊎ (k ≡ 17) ⊎ (k ≡ 18)

pub record Order3 (a : Checker) : Type 0 where
  -- the answers are those of the definitions
  pub told : (x : Lent) (w : ℕ) (s : List ℕ) → a.fits x w s ≡ ours_of_fits.fits x w s
  pub printed : (file : List ℕ) → a.text file ≡ ours_of_fits.text file
  -- a record passes exactly if each of its instructions is the one that its code stands for, and so for each refusal
  pub exactly : (x : Lent) (w : ℕ) (s : List ℕ) → Exactly (a.fits x w s) x w s
  pub numbered : (x : Lent) (w : ℕ) (s : List ℕ) (r : FitRefusal) → a.fits x w s ≡ Err r → FitNumber (fit_number r)
  -- only lent bytes are read (RULES 1.8): with more .xdata around the same bytes, and more code behind the function, an answer stays, unless it
  -- was that something is not there
  pub stays : (x x' : Lent) (w : ℕ) (s more : List ℕ) → More x x' → fit_xdata x' ≡ true → lasts (a.fits x w s) ≡ true → a.fits x' w (s ++ more) ≡ a.fits x w s
