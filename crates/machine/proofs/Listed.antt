-- The words of a list: one more for a register that is listed, and no more than there are registers. A pop takes them all, or is refused.
-- Assumes nothing.
use Rattle.std.specs.Prelude.{Ok, Err}
use Prim.Native.Nat.{ℕ, zero, suc, ◌+◌, ◌-◌, ◌*◌, ◌≤◌, ◌<◌}
use mathlib.Core.Path.{◌≡◌, refl, sym, ap, ◌∙◌}
use mathlib.Core.Bool.{Bool, true, false}
use mathlib.Core.Logic.{◌⊎◌, inl, inr, ⊎_elim}
use native.Mathlib.Omega.{arith}
use Rattle.words.specs.Bits.{bit}
use Rattle.words.specs.declared.Refusal.TheVariants.{BadStack}
use Rattle.words.specs.Answer.{Res, ◌>>=◌}
use Rattle.lent.specs.Lent.{Lent, end, holds}
use Rattle.machine.specs.Step.{pop}
use Rattle.machine.specs.AsCoded.Listed.{words_listed}
use Rattle.machine.specs.declared.Regs.{Regs}
use Rattle.machine.proofs.Loading.{held, holding, load-held, load-none}
use Rattle.machine.proofs.Popping.{listed, listed-word, listed-not, listed-refused, pop-none, pop_next}

module _ (l : ℕ) where
  pub words-none : words_listed l 0 ≡ 0
  unfolding words_listed
  words-none = refl

  pub words-with : (n : ℕ) → bit n l ≡ true → words_listed l (suc n) ≡ words_listed l n + 1
  unfolding words_listed
  words-with n e = rw e refl

  pub words-without : (n : ℕ) → bit n l ≡ false → words_listed l (suc n) ≡ words_listed l n
  unfolding words_listed
  words-without n e = rw e (omega arith)

  -- by a register more there is a word more or none
  more : (n : ℕ) → (words_listed l n ≤ words_listed l (suc n)) × (words_listed l (suc n) ≤ words_listed l n + 1)
  more n = go (bit n l) refl
    where
      go : (b : Bool) → bit n l ≡ b → (words_listed l n ≤ words_listed l (suc n)) × (words_listed l (suc n) ≤ words_listed l n + 1)
      go true e = let w = words-with n e in (omega arith, omega arith)
      go false e = let w = words-without n e in (omega arith, omega arith)

  pub words-most : (n : ℕ) → words_listed l n ≤ n
  words-most zero = omega (arith, words-none)
  words-most (suc n) = omega (arith, (more n).1, words-most n)

  grow : (n m : ℕ) → words_listed l m ≤ words_listed l (n + m)
  grow zero m = let z : 0 + m ≡ m = omega arith in rw z (omega arith)
  grow (suc n) m = let z : suc n + m ≡ suc (n + m) = omega arith in rw z (omega (arith, (more (n + m)).0, grow n m))

  -- the word of a register that is listed is one of the list's
  pub words-within : (n m : ℕ) → bit n l ≡ true → n < m → words_listed l n + 1 ≤ words_listed l m
  words-within n m e h =
      let z : m - suc n + suc n ≡ m = omega arith in
      let w : words_listed l (suc n) ≤ words_listed l m = rw z at (grow (m - suc n) (suc n)) in
      omega (arith, w, words-with n e)

-- a pop is refused, or SP stands behind its words, which are lent
module _ (k : Lent) (l : ℕ) (g : Regs) where
  abbrev Ends : ℕ → Type 0
  Ends n =
      (pop k l n g ≡ Err BadStack)
      ⊎ ((h : Regs)
      × (pop k l n g ≡ Ok h)
      × (h.sp ≡ g.sp + 4 * words_listed l n)
      × (0 < words_listed l n → (k.base ≤ g.sp) × (g.sp + 4 * words_listed l n ≤ end k)))

  ends : (n : ℕ) → Ends n
  ends zero = inr (g, pop-none k l g, omega (arith, words-none l), λ h. absurd (omega (arith, words-none l)))
  ends (suc n) = ⊎_elim (λ e. inl (next e)) (λ w. go w.0 w.1 w.2 w.3 (bit n l) refl (holds k w.0.sp 4) refl) (ends n)
    where
      next : {x : Res Regs} → pop k l n g ≡ x → pop k l (suc n) g ≡ (x >>= listed k l n)
      next e = pop_next k l g n ∙ ap (λ x. x >>= listed k l n) e

      go :
          (h : Regs) → pop k l n g ≡ Ok h → h.sp ≡ g.sp + 4 * words_listed l n
          → (0 < words_listed l n → (k.base ≤ g.sp) × (g.sp + 4 * words_listed l n ≤ end k))
          → (b : Bool) → bit n l ≡ b → (t : Bool) → holds k h.sp 4 ≡ t → Ends (suc n)
      go h e s w false b t q =
          let m = words-without l n b in
          inr (h, next e ∙ listed-not k l n h.r h.sp h.lr h.pc h.d _ _ _ b refl refl refl, omega (arith, s, m), λ z. rw m (w (omega (arith, m))))
      go h e s w true b true q =
          let m = words-with l n b in
          let r = held k h.sp 4 q in
          inr (_, next e ∙ listed-word k l n h.r h.sp h.lr h.pc h.d _ _ _ _ b (load-held k h.sp q) refl refl refl, omega (arith, s, m), λ z. (above (words_listed l n) s r w, omega (arith, s, m, r)))
        where
          above : (x : ℕ) → h.sp ≡ g.sp + 4 * x → (k.base ≤ h.sp) × (h.sp + 4 ≤ end k) → (0 < x → (k.base ≤ g.sp) × (g.sp + 4 * x ≤ end k)) → k.base ≤ g.sp
          above zero s r w = omega (arith, s, r)
          above (suc x) s r w = (w (omega arith)).0
      go h e s w true b false q = inl (next e ∙ listed-refused k l n h.r h.sp h.lr h.pc h.d _ b (load-none k h.sp q))

  pub pop-short : (n : ℕ) → holds k g.sp (4 * words_listed l n) ≡ false → 0 < words_listed l n → pop k l n g ≡ Err BadStack
  pop-short n none some =
      ⊎_elim (λ e. e)
      (λ w. let r = w.3 some in let y = holding k g.sp (4 * words_listed l n) r.0 r.1 in absurd (let z : ◌≡◌ {A = ℕ} 0 1 = cc in omega arith))
      (ends n)

  -- a list of no register pops nothing
  pub pop-nothing : (n : ℕ) → words_listed l n ≡ 0 → pop k l n g ≡ Ok g
  pop-nothing zero z = pop-none k l g
  pop-nothing (suc n) z = go (bit n l) refl (λ y. pop-nothing n y)
    where
      go : (b : Bool) → bit n l ≡ b → (words_listed l n ≡ 0 → pop k l n g ≡ Ok g) → pop k l (suc n) g ≡ Ok g
      go true b before = absurd (omega (arith, words-with l n b, z))
      go false b before =
          pop_next k l g n ∙ ap (λ x. x >>= listed k l n) (before (sym (words-without l n b) ∙ z)) ∙ listed-not k l n g.r g.sp g.lr g.pc g.d _ _ _ b refl refl refl
