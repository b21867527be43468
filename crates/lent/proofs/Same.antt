-- `same` is equality of bytes.
-- Assumes nothing.
use Prim.Native.Nat.{ℕ}
use mathlib.Core.Path.{◌≡◌, refl, sym, ◌∙◌, subst}
use mathlib.Core.Bool.{Bool, true, false, ◌&&◌}
use mathlib.Core.List.{List, [], ◌∷◌}
use lib.Dec.{eqb}
use borrow.Author.Tests.{eq-eqb, eqb-true}
use Rattle.lent.specs.Parts.{same}

same_self : (s : List ℕ) → same s s ≡ true
same_self [] = refl
same_self (a ∷ s) = rw (eq-eqb a a refl) (same_self s)

same_true : (s t : List ℕ) → same s t ≡ true → s ≡ t
same_true [] [] e = refl
same_true [] (b ∷ t) e = let z : true ≡ false = sym e in cc
same_true (a ∷ s) [] e = let z : true ≡ false = sym e in cc
same_true (a ∷ s) (b ∷ t) e = go (same_true s t) (eqb a b) refl e
  where
    go : (same s t ≡ true → s ≡ t) → (x : Bool) → eqb a b ≡ x → x && same s t ≡ true → a ∷ s ≡ b ∷ t
    go rest true p q = let h : a ≡ b = eqb-true a b p in let r : s ≡ t = rest q in cc
    go rest false p q = let z : true ≡ false = sym q in cc

pub same-is : (s t : List ℕ) (r : Bool) → (r ≡ true → s ≡ t) × (s ≡ t → r ≡ true) → r ≡ same s t
same-is s t true h = sym (subst (λ (x : List ℕ). same s x ≡ true) (h.0 refl) (same_self s))
same-is s t false h = go (same s t) refl
  where
    go : (x : Bool) → same s t ≡ x → false ≡ same s t
    go true e = h.1 (same_true s t e) ∙ sym e
    go false e = sym e
