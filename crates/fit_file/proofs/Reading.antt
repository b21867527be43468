-- When a FIT file is read and when not, and what its parts then are: by the needs in their order.
-- Assumes nothing.
use Rattle.std.specs.Prelude.{Ok, Err}
use Prim.Native.Nat.{ℕ, ◌≤◌, ◌<◌}
use mathlib.Core.Path.{◌≡◌, refl, sym, ap, ◌∙◌}
use mathlib.Core.Bool.{Bool, true, false, ◌&&◌}
use mathlib.Core.List.{List}
use lib.ListN.{length, take}
use lib.Dec.{leb, eqb}
use borrow.Author.Tests.{le-leb, lt-leb, eq-eqb, ne_eqb}
use native.Mathlib.Nat.{add-sub_cancel_left}
use Rattle.words.specs.declared.Refusal.TheVariants.{UnfitReport}
use Rattle.words.specs.declared.Refusal.{Refusal}
use Rattle.words.specs.Answer.{Res, ◌>>=◌, ◌>>◌, need}
use Rattle.lent.specs.Parts.{same}
use Rattle.fit_file.specs.declared.FitParts.{FitParts}
use Rattle.fit_file.specs.FitFile.{FitFile, fit_file, mark, head_bytes, xdata_size, code_size, code_at, end_at, fit_of}
use Rattle.fit_file.specs.AsCoded.Parts.{parts, parts_of, fit_in}

pub too_short : (s : List ℕ) → length s < head_bytes → fit_file s ≡ Err UnfitReport
unfolding fit_file
too_short s h = rw (lt-leb head_bytes (length s) h) refl

module _ (s : List ℕ) (a : head_bytes ≤ length s) where
  pub too_long : 1048576 < length s → fit_file s ≡ Err UnfitReport
  unfolding fit_file
  too_long h = rw (le-leb head_bytes (length s) a, lt-leb (length s) 1048576 h) refl

  module _ (b : length s ≤ 1048576) where
    pub not-marked : same (take 8 s) mark ≡ false → fit_file s ≡ Err UnfitReport
    unfolding fit_file
    not-marked m = rw (le-leb head_bytes (length s) a, le-leb (length s) 1048576 b, m) refl

    pub not-whole : same (take 8 s) mark ≡ true → (length s ≡ end_at s → ⊥) → fit_file s ≡ Err UnfitReport
    unfolding fit_file
    not-whole m h = rw (le-leb head_bytes (length s) a, le-leb (length s) 1048576 b, m, ne_eqb (length s) (end_at s) h) refl

    pub fit : same (take 8 s) mark ≡ true → length s ≡ end_at s → fit_file s ≡ Ok (fit_of s)
    unfolding fit_file
    fit m e = rw (le-leb head_bytes (length s) a, le-leb (length s) 1048576 b, m, eq-eqb (length s) (end_at s) e) refl

-- what reading answers where the file is unfit, and where it is fit
pub refused-is : (s : List ℕ) → fit_file s ≡ Err UnfitReport → ◌≡◌ {A = Res FitParts} (Err UnfitReport) (parts s)
unfolding parts
refused-is s e = rw e refl

pub given-is : (s : List ℕ) {f : FitFile} → fit_file s ≡ Ok f → ◌≡◌ {A = Res FitParts} (Ok (parts_of s)) (parts s)
unfolding parts
given-is s e = rw e refl

-- the parts that are read give the file
fit-in : (s : List ℕ) → fit_in s (parts_of s) ≡ fit_of s
fit-in s = rw (add-sub_cancel_left head_bytes (xdata_size s), add-sub_cancel_left (code_at s) (code_size s)) refl

pub parts-fit : (s : List ℕ) → parts s >>= (λ p. Ok (fit_in s p)) ≡ fit_file s
unfolding parts fit_file
parts-fit s = go (leb head_bytes (length s) && leb (length s) 1048576) (same (take 8 s) mark) (eqb (length s) (end_at s))
  where
    asked : (a b c : Bool) → Res FitFile
    asked a b c = need a UnfitReport >> (need b UnfitReport >> (need c UnfitReport >> Ok (fit_of s)))

    go : (a b c : Bool) → asked a b c >>= (λ f. Ok (parts_of s)) >>= (λ p. Ok (fit_in s p)) ≡ asked a b c
    go true true true = ap Ok (fit-in s)
    go true true false = refl
    go true false c = refl
    go false b c = refl

-- a file that was read is of its parts, and a refusal is the file's
pub read-given : (s : List ℕ) (p : FitParts) → parts s ≡ Ok p → fit_file s ≡ Ok (fit_in s p)
read-given s p e = sym (parts-fit s) ∙ ap (λ x. x >>= (λ p. Ok (fit_in s p))) e

pub read-refused : (s : List ℕ) (r : Refusal) → parts s ≡ Err r → fit_file s ≡ Err r
read-refused s r e = sym (parts-fit s) ∙ ap (λ x. x >>= (λ p. Ok (fit_in s p))) e
