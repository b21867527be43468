-- The end of a code list whose sizes add up to an amount: what is found is such an end; behind codes that have instructions it is found at
-- each instruction boundary, and it is the only one.
-- Assumes nothing.
use Rattle.std.specs.Prelude.{if◌then◌else◌, None, Some}
use Prim.Native.Nat.{ℕ, ◌+◌, ◌<◌}
use mathlib.Core.Path.{◌≡◌, refl, ap}
use mathlib.Core.List.{List, ◌∷◌, ◌++◌, []}
use mathlib.Core.Bool.{Bool, true, false}
use lib.Dec.{eqb}
use native.Mathlib.Omega.{arith}
use borrow.Author.Tests.{eqb-true, eq-eqb, ne_eqb}
use Rattle.unwinding.specs.CodeList.{total, end_of}
use Rattle.unwinding.proofs.All.{Sized}

module _ {C : Type 0} (size : C → ℕ) where
  pub total-empty : total size [] ≡ 0
  unfolding total
  total-empty = refl

  pub total-step : (c : C) (cs : List C) → total size (c ∷ cs) ≡ size c + total size cs
  unfolding total
  total-step c cs = refl

  pub total-append : (a b : List C) → total size (a ++ b) ≡ total size a + total size b
  unfolding total
  total-append [] b = omega arith
  total-append (c ∷ a) b = omega (arith, total-append a b)

  pub end_of-empty : (after n : ℕ) → end_of size after n [] ≡ (if eqb after n then Some [] else None)
  unfolding end_of
  end_of-empty after n = refl

  pub end_of-step :
      (after n : ℕ) (c : C) (cs : List C)
      → end_of size after n (c ∷ cs) ≡ (if eqb (total size (c ∷ cs) + after) n then Some (c ∷ cs) else end_of size after n cs)
  unfolding end_of
  end_of-step after n c cs = refl

  -- what is found is an end of the list, of the size asked for
  pub end_of-sound :
      (after n : ℕ) (cs l : List C) → end_of size after n cs ≡ Some l → ((a : List C) × (a ++ l ≡ cs)) × (total size l + after ≡ n)
  unfolding end_of total
  end_of-sound after n [] l e = go (eqb after n) refl e
    where
      go :
          (t : Bool) → eqb after n ≡ t → (if t then Some [] else None) ≡ Some l → ((a : List C) × (a ++ l ≡ [])) × (total size l + after ≡ n)
      go true p q = let z : l ≡ [] = cc in (([], z), rw z (omega (arith, eqb-true after n p)))
      go false p q = absurd (let z : ◌≡◌ {A = ℕ} 0 1 = cc in omega arith)
  end_of-sound after n (c ∷ cs) l e = go (eqb (size c + total size cs + after) n) refl e (λ q. end_of-sound after n cs l q)
    where
      go :
          (t : Bool) → eqb (size c + total size cs + after) n ≡ t → (if t then Some (c ∷ cs) else end_of size after n cs) ≡ Some l
          → (end_of size after n cs ≡ Some l → ((a : List C) × (a ++ l ≡ cs)) × (total size l + after ≡ n))
          → ((a : List C) × (a ++ l ≡ c ∷ cs)) × (total size l + after ≡ n)
      go true p q ih = let z : l ≡ c ∷ cs = cc in (([], z), rw z (eqb-true _ _ p))
      go false p q ih = let w = ih q in ((c ∷ w.0.0, ap (λ (x : List C). c ∷ x) w.0.1), w.1)

  pub end_of-whole : (after n : ℕ) (l : List C) → total size l + after ≡ n → end_of size after n l ≡ Some l
  unfolding end_of total
  end_of-whole after n [] e = let h : after ≡ n = omega arith in rw (eq-eqb after n h) refl
  end_of-whole after n (c ∷ l) e = rw (eq-eqb _ _ e) refl

  -- no end of a list is longer than the list
  pub end_of-short : (after n : ℕ) (cs : List C) → total size cs + after < n → end_of size after n cs ≡ None
  unfolding end_of total
  end_of-short after n [] h = let l : after ≡ n → ⊥ = λ e. omega arith in rw (ne_eqb after n l) refl
  end_of-short after n (c ∷ cs) h = let l : size c + total size cs + after ≡ n → ⊥ = λ e. omega arith in rw (ne_eqb _ _ l) (end_of-short after n cs (omega arith))

  -- at an instruction boundary the codes of what is left are found
  pub end_of-boundary :
      (after n : ℕ) (a l : List C) → Sized size a → total size l + after ≡ n → end_of size after n (a ++ l) ≡ Some l
  unfolding end_of total
  end_of-boundary after n [] l z e = end_of-whole after n l e
  end_of-boundary after n (c ∷ a) l z e =
      let h : size c + total size (a ++ l) + after ≡ n → ⊥ = λ q. omega (arith, total-append a l, z.0) in
      rw (ne_eqb _ _ h) (end_of-boundary after n a l z.1 e)

  -- and no other end of the list, behind codes with instructions, has that size
  pub end_of-only :
      (after n : ℕ) (a b k l : List C) → Sized size a → Sized size b → a ++ k ≡ b ++ l → total size k + after ≡ n → total size l + after ≡ n → k ≡ l
  end_of-only after n a b k l y z e p q =
      let u : end_of size after n (a ++ k) ≡ Some k = end_of-boundary after n a k y p in
      let v : end_of size after n (b ++ l) ≡ Some l = end_of-boundary after n b l z q in
      let w : end_of size after n (a ++ k) ≡ end_of size after n (b ++ l) = ap (end_of size after n) e in
      cc
