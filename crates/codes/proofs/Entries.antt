-- Tables that antt computes. A table's entry at k is the function's value there: where the table is written out, antt computes `tab` and
-- compares the two lists, so one use of `tab-has` proves a table's rule at each of its entries. Where a function's values at some
-- numbers in a row are computed to be one and the same, `run_at` gives it at each of them.
-- Assumes nothing.
use mathlib.Core.Path.{◌≡◌, refl, ◌∙◌, sym, ap, subst}
use mathlib.Core.List.{List, [], ◌∷◌}
use Prim.Native.Nat.{ℕ, zero, suc, ◌+◌, ◌-◌, ◌≤◌, ◌<◌}
use native.Mathlib.Nat.{add-zero, zero-add, add-suc, suc-add, le_of_suc-le-suc, not-suc-le-zero}
use native.Mathlib.Omega.{arith}
use lib.ListN.{get_or}
pub use Rattle.codes.specs.AsCoded.Rows.{tab}

module _ {A : Type 0} where
  -- n times x
  abbrev pub all : A → ℕ → List A
  all x zero = []
  all x (suc n) = x ∷ all x n

  pub tab-from : (d : A) (g : ℕ → A) (i n k : ℕ) → k < n → get_or (tab g i n) k d ≡ g (i + k)
  tab-from d g i zero k h = absurd (not-suc-le-zero h)
  tab-from d g i (suc n) zero h = ap g (sym (add-zero i))
  tab-from d g i (suc n) (suc k) h = tab-from d g (suc i) n k (le_of_suc-le-suc h) ∙ ap g (suc-add i k ∙ sym (add-suc i k))

  all-at : (x : A) (n k : ℕ) → get_or (all x n) k x ≡ x
  all-at x zero zero = refl
  all-at x zero (suc k) = refl
  all-at x (suc n) zero = refl
  all-at x (suc n) (suc k) = all-at x n k

  -- g is x at n numbers from i on
  pub run_at : (g : ℕ → A) (x : A) (i n : ℕ) → tab g i n ≡ all x n → (b : ℕ) → i ≤ b → b < i + n → x ≡ g b
  run_at g x i n e b l u =
      let k : i + (b - i) ≡ b = omega arith in
      let h : b - i < n = omega arith in
      sym (all-at x n (b - i)) ∙ ap (λ s. get_or s (b - i) x) (sym e) ∙ tab-from x g i n (b - i) h ∙ ap g k

-- what holds of a function's value holds of the table's entry
pub tab-has : (P : ℕ → Type 0) (g : ℕ → ℕ) (n k : ℕ) → k < n → P (g k) → P (get_or (tab g 0 n) k 0)
tab-has P g n k h p = subst P (sym (tab-from 0 g 0 n k h ∙ ap g (zero-add k))) p
