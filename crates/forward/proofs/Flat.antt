-- Codes as steps of one register each; what undoing a code list still needs is that rX or an unsaved register of the caller's.
-- Assumes nothing.
use Prim.Native.Nat.{ℕ, zero, suc, ◌+◌, ◌*◌, ◌≤◌}
use mathlib.Core.Path.{◌≡◌, refl, sym, ap, ◌∙◌, subst}
use mathlib.Core.Logic.{◌⊎◌, inl, inr}
use mathlib.Core.List.{List, [], ◌∷◌, ◌++◌, append_assoc}
use native.Mathlib.Omega.{arith}
use Rattle.lent.specs.Lent.{Lent, word_at}
use Rattle.codes.specs.declared.Code.{Code}
use Rattle.codes.specs.declared.Undo.{Undo}
use Rattle.codes.specs.declared.Undo.TheVariants.{Up, Pop, SpFrom, Vpop, LoadLr, Nothing}
use Rattle.forward.specs.Registers.{width, Lasting}
use Rattle.forward.specs.Saving.{saves, bytes, falls, Among, Saved, IsRX, RX}
use Rattle.forward.specs.Body.{Holds, Words}
use Rattle.forward.proofs.Ops.{Op, skip, load, from, peek, Need, Kept}

abbrev pub loads : List ℕ → List Op
loads [] = []
loads (x ∷ xs) = load x ∷ loads xs

abbrev pub lr_ops : ℕ → List Op
lr_ops zero = peek ∷ []
lr_ops (suc n) = load 14 ∷ skip n ∷ []

abbrev pub ops : Undo → List Op
ops (Up n) = skip n.0 ∷ []
ops (Pop l) = loads (saves (Pop l))
ops (SpFrom x) = from x ∷ []
ops (Vpop s e) = loads (saves (Vpop s e))
ops (LoadLr n) = lr_ops n.0
ops Nothing = []

abbrev pub flat : List Code → List Op
flat [] = []
flat (c ∷ cs) = ops c.undo ++ flat cs

pub flat_append : (a b : List Code) → flat (a ++ b) ≡ flat a ++ flat b
flat_append [] b = refl
flat_append (c ∷ a) b = ap (λ l. ops c.undo ++ l) (flat_append a b) ∙ sym (append_assoc (ops c.undo) (flat a) (flat b))

pub loads-append : (a b : List ℕ) → loads (a ++ b) ≡ loads a ++ loads b
loads-append [] b = refl
loads-append (x ∷ a) b = ap (λ l. load x ∷ l) (loads-append a b)

-- ---- what is needed
need-loads : (xs : List ℕ) (os : List Op) (x : ℕ) → Need (loads xs ++ os) x → Need os x × (Among x xs → ⊥)
need-loads [] os x w = (w, λ q. q)
need-loads (y ∷ ys) os x w =
    let i = need-loads ys os x w.1 in
    (i.0, λ q. elim q [ inl e ↦ w.0 e | inr a ↦ i.1 a ])

need-lr : (n : ℕ) (os : List Op) (x : ℕ) → Need (lr_ops n ++ os) x → Need os x × (Among x (14 ∷ []) → ⊥)
need-lr zero os x w = (w.1, λ q. elim q [ inl e ↦ w.0 e | inr a ↦ a ])
need-lr (suc n) os x w = (w.1, λ q. elim q [ inl e ↦ w.0 e | inr a ↦ a ])

need-one : (u : Undo) (os : List Op) (x : ℕ) → Need (ops u ++ os) x → IsRX u x ⊎ (Need os x × (Among x (saves u) → ⊥))
need-one (Up n) os x w = inr (w, λ q. q)
need-one (Pop l) os x w = inr (need-loads (saves (Pop l)) os x w)
need-one (SpFrom y) os x w = elim w [ inl e ↦ inl e | inr v ↦ inr (v, λ q. q) ]
need-one (Vpop s e) os x w = inr (need-loads (saves (Vpop s e)) os x w)
need-one (LoadLr n) os x w = inr (need-lr n.0 os x w)
need-one Nothing os x w = inr (w, λ q. q)

-- what is needed is that rX, or one of the caller's that is not saved
pub need-cases : (cs : List Code) (x : ℕ) → Need (flat cs) x → RX cs x ⊎ (Lasting x × (Saved cs x → ⊥))
need-cases [] x w = inr (w, λ q. q)
need-cases (c ∷ cs) x w = go (need-one c.undo (flat cs) x w) (λ v. need-cases cs x v)
  where
    go :
        IsRX c.undo x ⊎ (Need (flat cs) x × (Among x (saves c.undo) → ⊥))
        → (Need (flat cs) x → RX cs x ⊎ (Lasting x × (Saved cs x → ⊥)))
        → RX (c ∷ cs) x ⊎ (Lasting x × (Saved (c ∷ cs) x → ⊥))
    go (inl e) ih = inl (inl e)
    go (inr p) ih =
        elim (ih p.0) [
          | inl f ↦ inl (inr f)
          | inr q ↦ inr (q.0, λ s. elim s [ inl a ↦ p.1 a | inr b ↦ q.1 b ])
        ]

-- r0-r3 and r12 are not the caller's
pub lasting-range : (x : ℕ) → Lasting x → ((x ≤ 3) ⊎ (x ≡ 12)) → ⊥
lasting-range x (inl a) (inl q) = omega arith
lasting-range x (inl a) (inr q) = omega arith
lasting-range x (inr (inl a)) (inl q) = omega arith
lasting-range x (inr (inl a)) (inr q) = omega arith
lasting-range x (inr (inr a)) (inl q) = omega arith
lasting-range x (inr (inr a)) (inr q) = omega arith

-- ---- the words that undoing needs are those that the body keeps
module _ (of : ℕ → Type 0) (k k' : Lent) where
  holds_kept :
      (xs : List ℕ) (os : List Op) (a : ℕ) → ((x : ℕ) → Need os x → of x) → Holds of k k' a xs
      → Kept (word_at k') (word_at k) os (a + bytes xs)
      → Kept (word_at k') (word_at k) (loads xs ++ os) a
  holds_kept [] os a inc h w = subst (Kept (word_at k') (word_at k) os) (let z : a + 0 ≡ a = omega arith in z) w
  holds_kept (x ∷ xs) os a inc h w = (
    λ n. h.0 (inc x (need-loads xs os x n).0),
    holds_kept xs os (a + width x) inc h.1
        (subst (Kept (word_at k') (word_at k) os) (let z : a + (width x + bytes xs) ≡ a + width x + bytes xs = omega arith in z) w),
  )

  lr-kept :
      (n : ℕ) (os : List Op) (a : ℕ) → ((x : ℕ) → Need os x → of x) → Holds of k k' a (14 ∷ [])
      → Kept (word_at k') (word_at k) os (a + 4 * n)
      → Kept (word_at k') (word_at k) (lr_ops n ++ os) a
  lr-kept zero os a inc h w = (λ n. h.0 (inc 14 n), subst (Kept (word_at k') (word_at k) os) (let z : a + 4 * 0 ≡ a = omega arith in z) w)
  lr-kept (suc n) os a inc h w =
      (λ n. h.0 (inc 14 n), subst (Kept (word_at k') (word_at k) os) (let z : a + 4 * suc n ≡ a + 4 + 4 * n = omega arith in z) w)

  code-kept :
      (u : Undo) (os : List Op) (a : ℕ) → ((x : ℕ) → Need os x → of x) → Holds of k k' a (saves u)
      → Kept (word_at k') (word_at k) os (a + falls u)
      → Kept (word_at k') (word_at k) (ops u ++ os) a
  code-kept (Up n) os a inc h w = w
  code-kept (Pop l) os a inc h w = holds_kept (saves (Pop l)) os a inc h w
  code-kept (SpFrom x) os a inc h w = subst (Kept (word_at k') (word_at k) os) (let z : a + 0 ≡ a = omega arith in z) w
  code-kept (Vpop s e) os a inc h w = holds_kept (saves (Vpop s e)) os a inc h w
  code-kept (LoadLr n) os a inc h w = lr-kept n.0 os a inc h w
  code-kept Nothing os a inc h w = subst (Kept (word_at k') (word_at k) os) (let z : a + 0 ≡ a = omega arith in z) w

  pub words-kept :
      (cs : List Code) (a : ℕ) → ((x : ℕ) → RX cs x ⊎ Lasting x → of x) → Words of k k' a cs
      → Kept (word_at k') (word_at k) (flat cs) a
  words-kept [] a inc h = tt
  words-kept (c ∷ cs) a inc h =
      code-kept c.undo (flat cs) a
      (λ x n. elim (need-cases cs x n) [ inl q ↦ inc x (inl (inr q)) | inr p ↦ inc x (inr p.0) ])
      h.0
      (words-kept cs (a + falls c.undo) (λ x q. elim q [ inl f ↦ inc x (inl (inr f)) | inr l ↦ inc x (inr l) ]) h.1)
