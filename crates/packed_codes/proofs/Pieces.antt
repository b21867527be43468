-- The codes that a packed word's lists are made of, by what its fields are.
-- Assumes nothing.
use Rattle.std.specs.Prelude.{if◌then◌else◌, None, Some}
use Prim.Native.Nat.{ℕ, suc, ◌+◌, ◌-◌, ◌%◌, ◌≤◌, ◌<◌}
use mathlib.Core.Path.{◌≡◌, refl}
use mathlib.Core.List.{[], ◌∷◌, ◌++◌}
use mathlib.Core.Bool.{Bool, true, false, ◌&&◌, not}
use lib.Dec.{eqb}
use native.Mathlib.Omega.{arith}
use borrow.Author.Tests.{lt-ltb, le-ltb, eq-eqb, ne_eqb}
use Rattle.words.specs.Bits.{bits}
use Rattle.words.specs.Units.{stack_words}
use Rattle.codes.specs.Table.{range, lr_if}
use Rattle.packed.specs.Packed.{Fit, fields, amount, folded, EF, integers}
use Rattle.packed.proofs.Words.{fields_fit_lem}
use Rattle.packed_codes.specs.PackedCodes.{when, up_code, vpop_code, up_to, pop_sized, pop_code, low, leave, second_list}
use Rattle.packed.specs.declared.Packed.{Packed}

-- what is read from a word fits its fields
pub read-fit : (w : ℕ) (p : Packed) → p ≡ fields w → Fit p
read-fit w p e = rw e (fields_fit_lem w)

-- the amount: below 1,024 words
pub amount-small : (p : Packed) → Fit p → (amount p).0 < 1024
amount-small p f = go (folded p)
  where
    go : (b : Bool) → (stack_words (if b then p.adjust % 4 + 1 else p.adjust)).0 < 1024
    go true = omega arith
    go false = f.adjust

-- a list of r0-r12 and LR, taken apart: the code of its pop, where it is empty and where it is not
module _ (list : ℕ) (made : list ≡ bits 0 13 list + lr_if (bits 14 1 list)) (w : Bool) where
  pub list-none : list ≡ 0 → pop_code w (bits 0 13 list) (bits 14 1 list) ≡ []
  list-none e = rw (eq-eqb (bits 0 13 list + bits 14 1 list) 0 (omega arith)) refl

  pub list-some : (list ≡ 0 → ⊥) → pop_sized w (bits 0 13 list) (bits 14 1 list) ≡ pop_code w (bits 0 13 list) (bits 14 1 list)
  list-some n = rw (ne_eqb (bits 0 13 list + bits 14 1 list) 0 (λ z. n (omega arith))) refl

-- r8-r12 of a list: none of them, and it has low registers only, or some
module _ (list : ℕ) where
  pub high-none : bits 8 5 list ≡ 0 → (low (bits 0 13 list) ≡ true) × (bits 0 8 list ≡ bits 0 13 list)
  high-none h = (lt-ltb (bits 0 13 list) 256 (omega arith), omega arith)

  pub high-some : (bits 8 5 list ≡ 0 → ⊥) → low (bits 0 13 list) ≡ false
  high-some h = le-ltb (bits 0 13 list) 256 (omega (arith, h))

-- the end of an epilogue
pub leave-load :
    (p : Packed) (l : ℕ) → (eqb p.h 1 && eqb p.l 1) ≡ true → leave p l ≡ pop_code (low l) l 0 ++ (0xEF ∷ 0x05 ∷ 0xFF ∷ [])
leave-load p l h = rw h refl

pub leave-return :
    (p : Packed) (l : ℕ) → (eqb p.h 1 && eqb p.l 1) ≡ false → p.ret ≡ 0 → leave p l ≡ pop_code (low l) l p.l ++ (0xFF ∷ [])
leave-return p l h r = rw (h, eq-eqb p.ret 0 r) refl

pub leave-jump :
    (p : Packed) (l : ℕ) → (eqb p.h 1 && eqb p.l 1) ≡ false → (p.ret ≡ 0 → ⊥)
    → leave p l ≡ pop_code (low l && eqb p.l 0) l p.l ++ when (eqb p.h 1) (0x04 ∷ []) ++ ((0xFC + p.ret) ∷ [])
leave-jump p l h r = rw (h, ne_eqb p.ret 0 r) refl

-- no epilogue for Ret=3
pub second_none : (p : Packed) → p.ret ≡ 3 → second_list p ≡ []
unfolding second_list
second_none p h = rw (eq-eqb p.ret 3 h) refl

pub second-some :
    (p : Packed) → (p.ret ≡ 3 → ⊥)
    → second_list p ≡ when (not (EF p)) (up_code (amount p)) ++ vpop_code p ++ leave p (integers p (EF p))
unfolding second_list
second-some p h = rw (ne_eqb p.ret 3 h) refl

-- the X of a list r4-rX, among the numbers from x up to another
module _ (l x e : ℕ) where
  pub top-here : x < e → l ≡ range 4 x → up_to (e - x) x l ≡ Some x
  unfolding up_to
  top-here h k = let n : e - x ≡ suc (e - (x + 1)) = omega arith in rw (n, eq-eqb l (range 4 x) k) refl

  pub top-later : x < e → (l ≡ range 4 x → ⊥) → up_to (e - x) x l ≡ up_to (e - (x + 1)) (x + 1) l
  unfolding up_to
  top-later h k = let n : e - x ≡ suc (e - (x + 1)) = omega arith in rw (n, ne_eqb l (range 4 x) k) refl

  pub top-none : e ≤ x → up_to (e - x) x l ≡ None
  unfolding up_to
  top-none h = let n : e - x ≡ 0 = omega arith in rw n refl
