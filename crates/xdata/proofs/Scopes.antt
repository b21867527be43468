-- The test of the scope words, one word after another.
-- Assumes nothing.
use Prim.Native.Nat.{ℕ, suc, ◌+◌, ◌-◌, ◌*◌, ◌≤◌, ◌<◌}
use mathlib.Core.Path.{◌≡◌, refl, sym, ap, ◌∙◌}
use mathlib.Core.Bool.{true, false, ◌&&◌}
use mathlib.Core.List.{List}
use lib.Dec.{eqb}
use native.Mathlib.Omega.{arith}
use borrow.Author.Tests.{eq-eqb, ne_eqb}
use Rattle.words.specs.Bits.{bits}
use Rattle.lent.specs.Little.{word32}
use Rattle.xdata.specs.AsCoded.Scopes.{res_zero}

-- the test of Res, one scope after another
pub res-done : (s : List ℕ) (at k n : ℕ) → n ≤ k → res_zero s at k (n - k) ≡ true
unfolding res_zero
res-done s at k n h = let e : n - k ≡ 0 = omega arith in rw e refl

res-next :
    (s : List ℕ) (at k n : ℕ) → k < n
    → res_zero s at k (n - k) ≡ (eqb (bits 18 2 (word32 s (at + 4 * k))) 0 && res_zero s at (k + 1) (n - (k + 1)))
unfolding res_zero
res-next s at k n h = let e : n - k ≡ suc (n - (k + 1)) = omega arith in rw e refl

module _ (s : List ℕ) (at k n w : ℕ) (h : k < n) (e : w ≡ word32 s (at + 4 * k)) where
  pub res-stops : (bits 18 2 w ≡ 0 → ⊥) → res_zero s at k (n - k) ≡ false
  res-stops z =
      res-next s at k n h ∙ ap (λ w. eqb (bits 18 2 w) 0 && res_zero s at (k + 1) (n - (k + 1))) (sym e) ∙ rw (ne_eqb (bits 18 2 w) 0 z) refl

  pub res-goes-on : bits 18 2 w ≡ 0 → res_zero s at k (n - k) ≡ res_zero s at (k + 1) (n - (k + 1))
  res-goes-on z =
      res-next s at k n h ∙ ap (λ w. eqb (bits 18 2 w) 0 && res_zero s at (k + 1) (n - (k + 1))) (sym e) ∙ rw (eq-eqb (bits 18 2 w) 0 z) refl
