-- Laws of a report's bytes: rows of words.
-- Assumes nothing.
use Prim.Native.Nat.{ℕ, zero, suc, ◌+◌, ◌*◌, ◌<◌}
use mathlib.Core.Path.{◌≡◌, refl, sym, ap, ◌∙◌}
use mathlib.Core.List.{List, [], ◌∷◌}
use lib.ListN.{length, get_or}
use native.Mathlib.Nat.{mul-zero, mul-suc}
use native.Mathlib.Omega.{arith}
use Rattle.lent.specs.Little.{word32, word64}
use Rattle.report.specs.Report.{words32, words64}

-- a row of n words, w bytes apart, from its elements
row_is :
    (w : ℕ) (f : ℕ → ℕ) (row : ℕ → ℕ → List ℕ) → ((a : ℕ) → row a 0 ≡ []) → ((a n : ℕ) → row a (suc n) ≡ f a ∷ row (a + w) n) →
    (a n : ℕ) (l : List ℕ) → length l ≡ n → ((k : ℕ) → k < n → get_or l k 0 ≡ f (a + w * k)) → l ≡ row a n
row_is w f row nil cons a zero [] e h = sym (nil a)
row_is w f row nil cons a zero (x ∷ l) e h = absurd (omega arith)
row_is w f row nil cons a (suc n) [] e h = absurd (omega arith)
row_is w f row nil cons a (suc n) (x ∷ l) e h =
    let z : a + w * 0 ≡ a = omega (arith, mul-zero w) in
    let more : (k : ℕ) → a + w * suc k ≡ a + w + w * k = λ k. omega (arith, mul-suc w k) in
    let first : x ≡ f a = h 0 (omega arith) ∙ ap f z in
    let rest : l ≡ row (a + w) n = row_is w f row nil cons (a + w) n l (omega arith) (λ k lt. h (suc k) (omega arith) ∙ ap f (more k)) in
    cc (cons a n)

pub words32-is : (s : List ℕ) (a n : ℕ) (l : List ℕ) → length l ≡ n → ((k : ℕ) → k < n → get_or l k 0 ≡ word32 s (a + 4 * k)) → l ≡ words32 s a n
unfolding words32
words32-is s = row_is 4 (word32 s) (words32 s) (λ a. refl) (λ a n. refl)

pub words64-is : (s : List ℕ) (a n : ℕ) (l : List ℕ) → length l ≡ n → ((k : ℕ) → k < n → get_or l k 0 ≡ word64 s (a + 8 * k)) → l ≡ words64 s a n
unfolding words64
words64-is s = row_is 8 (word64 s) (words64 s) (λ a. refl) (λ a n. refl)
