-- Registers loaded one after the other, by the machine's own steps, where each word was lent: whoever has those words and keeps all else has
-- the same registers.
-- Assumes nothing.
use Rattle.std.specs.Prelude.{if◌then◌else◌, Ok}
use Prim.Native.Nat.{ℕ, zero, suc, ◌+◌, ◌*◌, ◌^◌, ◌≤◌, ◌<◌}
use mathlib.Core.Path.{◌≡◌, refl, sym, ap, subst, ◌∙◌}
use mathlib.Core.Bool.{Bool, true, false}
use mathlib.Core.Logic.{◌≢◌, ◌⊎◌, inl, inr}
use mathlib.Core.List.{List, [], ◌∷◌, ◌++◌}
use lib.Dec.{ltb}
use native.Mathlib.Omega.{arith}
use borrow.Author.Tests.{lt-ltb, le-ltb}
use Rattle.words.specs.Bits.{bit}
use Rattle.words.proofs.Answers.{bind_ok, ok_same}
use Rattle.lent.specs.Lent.{Lent, end, holds, word_at}
use Rattle.machine.specs.Registers.{set_reg, set_d, set_sp}
use Rattle.machine.specs.Step.{load, pop_reg, pop_d, pop, vpop}
use Rattle.machine.specs.declared.Regs.{Regs}
use Rattle.machine.proofs.Loading.{holding, load-held, load_inside}
use Rattle.forward.specs.Registers.{value, width, held}
use Rattle.forward.specs.Saving.{listed, upward, bytes, Among}
use Rattle.forward.specs.State.{Whole}
use Rattle.forward.proofs.Ops.{upd, upd-cases}
use Rattle.forward.proofs.Writing.{whole_reg, whole-d, value-reg, value-d}
use Rattle.executing.specs.Manual.{Has}

pub bytes-append : (a b : List ℕ) → bytes (a ++ b) ≡ bytes a + bytes b
bytes-append [] b = omega arith
bytes-append (x ∷ a) b = omega (arith, bytes-append a b)

among-append : (x : ℕ) (a b : List ℕ) → Among x (a ++ b) → Among x a ⊎ Among x b
among-append x [] b h = inr h
among-append x (y ∷ a) b (inl e) = inl (inl e)
among-append x (y ∷ a) b (inr h) = elim (among-append x a b h) [ inl p ↦ inl (inr p) | inr p ↦ inr p ]

has-append : (k : Lent) (at : ℕ) (a b : List ℕ) (g : Regs) → Has k at (a ++ b) g → Has k at a g × Has k (at + bytes a) b g
has-append k at [] b g h = (tt, subst (λ i. Has k i b g) (let z : at ≡ at + 0 = omega arith in z) h)
has-append k at (x ∷ a) b g h =
    let i = has-append k (at + width x) a b g h.1 in
    ((h.0, i.0), subst (λ j. Has k j b g) (let z : at + width x + bytes a ≡ at + (width x + bytes a) = omega arith in z) i.1)

module _ (k : Lent) where
  -- registers t that have what was loaded, and in all else what was there before
  abbrev pub Like : Regs → List ℕ → Regs → ℕ → Type 0
  Like g xs t x = (Among x xs → ⊥) → value t x ≡ value g x

  pub record Loaded (g : Regs) (xs : List ℕ) (h : Regs) : Type 0 where
    pub sp : h.sp ≡ g.sp + bytes xs
    pub whole : Whole h
    pub same : (t : Regs) → Has k g.sp xs t → (x : ℕ) → Like g xs t x → value h x ≡ value t x

  pub loaded-none : (g : Regs) → Whole g → Loaded g [] g
  loaded-none g w = record { sp = omega arith; whole = w; same = λ t f x like. sym (like (λ a. a)) }

  loaded-then : {g h i : Regs} (a b : List ℕ) → Loaded g a h → Loaded h b i → Loaded g (a ++ b) i
  loaded-then {g} {h} {i} a b p q = record {
    sp = omega (arith, p.sp, q.sp, bytes-append a b);
    whole = q.whole;
    same = λ t f x like.
        let f₂ = has-append k g.sp a b t f in
        q.same t (subst (λ n. Has k n b t) (sym p.sp) f₂.1) x
        (λ nb. sym (p.same t f₂.0 x (λ na. like (λ m. elim (among-append x a b m) [ inl y ↦ na y | inr y ↦ nb y ]))));
  }

  -- one register, written with what is held
  loaded-one : (g h : Regs) (x : ℕ) → Whole h → holds k g.sp (width x) ≡ true → h.sp ≡ g.sp + width x → value h ≡ upd (value g) x (held k g.sp x) → Loaded g (x ∷ []) h
  loaded-one g h x w b p e = record {
    sp = omega (arith, p);
    whole = w;
    same = λ t f y like.
        ap (λ v. v y) e
        ∙ upd-cases (λ v. v ≡ value t y) (value g) x (held k g.sp x) y (λ q. f.0 b ∙ ap (value t) (sym q)) (λ n. sym (like (λ a. elim a [ inl q ↦ n q | inr q ↦ q ])));
  }

  pub record Word (a w : ℕ) : Type 0 where
    pub low : k.base ≤ a
    pub high : a + 4 ≤ end k
    pub is : w ≡ word_at k a

  pub loaded_word : (a w : ℕ) → load k a ≡ Ok w → Word a w
  loaded_word a w e =
      let i = load_inside k a w e in
      record { low = i.0; high = i.1; is = ok_same w (word_at k a) (sym e ∙ load-held k a (holding k a 4 i.0 i.1)) }

  pub loaded-reg : (x : ℕ) (g h : Regs) → x < 15 → x ≢ 13 → Whole g → pop_reg k x g ≡ Ok h → Loaded g (x ∷ []) h
  unfolding pop_reg
  loaded-reg x g h l n w e =
      let a = bind_ok (load k g.sp) _ h e in
      let m = loaded_word g.sp a.0 a.1 in
      let wide : ltb x 16 ≡ true = lt-ltb x 16 (omega arith) in
      let z : set_sp (set_reg g x a.0) (g.sp + 4) ≡ h = ok_same _ _ a.2 in
      let word : held k g.sp x ≡ a.0 = rw wide (sym m.is) in
      subst (Loaded g (x ∷ [])) z
      (loaded-one g (set_sp (set_reg g x a.0) (g.sp + 4)) x (record { r = (whole_reg x a.0 w).r; d = w.d })
      (rw wide (holding k g.sp 4 m.low m.high))
      (rw wide refl)
      (value-reg g x a.0 w l n ∙ ap (upd (value g) x) (sym word)))

  loaded-d : (x : ℕ) (g h : Regs) → x < 32 → Whole g → pop_d k x g ≡ Ok h → Loaded g ((16 + x) ∷ []) h
  unfolding pop_d
  loaded-d x g h l w e =
      let a = bind_ok (load k g.sp) _ h e in
      let b = bind_ok (load k (g.sp + 4)) _ h a.2 in
      let m = loaded_word g.sp a.0 a.1 in
      let n = loaded_word (g.sp + 4) b.0 b.1 in
      let wide : ltb (16 + x) 16 ≡ false = le-ltb (16 + x) 16 (omega arith) in
      let d : ℕ = a.0 + 2 ^ 32 * b.0 in
      let z : set_sp (set_d g x d) (g.sp + 8) ≡ h = ok_same _ _ b.2 in
      let word : held k g.sp (16 + x) ≡ d = rw (wide, ← m.is, ← n.is) refl in
      subst (Loaded g ((16 + x) ∷ [])) z
      (loaded-one g (set_sp (set_d g x d) (g.sp + 8)) (16 + x) (record { r = w.r; d = (whole-d x d w).d })
      (rw wide (holding k g.sp 8 m.low (omega (arith, n.high))))
      (rw wide refl)
      (value-d g x d w l ∙ ap (upd (value g) (16 + x)) (sym word)))

  loaded-if : (t : Bool) (n : ℕ) (g h : Regs) → n < 15 → (t ≡ true → n ≢ 13) → Whole g → (if t then pop_reg k n g else Ok g) ≡ Ok h → Loaded g (if t then n ∷ [] else []) h
  loaded-if true n g h l q w e = loaded-reg n g h l (q refl) w e
  loaded-if false n g h l q w e = subst (Loaded g []) (ok_same g h e) (loaded-none g w)

  pub loaded-list : (l n : ℕ) (g h : Regs) → bit 13 l ≡ false → n ≤ 15 → Whole g → pop k l n g ≡ Ok h → Loaded g (listed l n) h
  unfolding pop
  loaded-list l zero g h b m w e = subst (Loaded g []) (ok_same g h e) (loaded-none g w)
  loaded-list l (suc n) g h b m w e =
      let a = bind_ok (pop k l n g) _ h e in
      let p = loaded-list l n g a.0 b (omega arith) w a.1 in
      loaded-then (listed l n) (if bit n l then n ∷ [] else []) p
      (loaded-if (bit n l) n a.0 h (omega arith) (λ t q. let z : ◌≡◌ {A = ℕ} 0 1 = cc (ap (λ i. bit i l) q) in omega arith) p.whole a.2)

  pub loaded-up : (x n : ℕ) (g h : Regs) → ((i : ℕ) → i < n → x + i < 32) → Whole g → vpop k x n g ≡ Ok h → Loaded g (upward (16 + x) n) h
  unfolding vpop
  loaded-up x zero g h b w e = subst (Loaded g []) (ok_same g h e) (loaded-none g w)
  loaded-up x (suc n) g h b w e =
      let a = bind_ok (vpop k x n g) _ h e in
      let p = loaded-up x n g a.0 (λ i q. b i (omega arith)) w a.1 in
      let same : 16 + (x + n) ≡ 16 + x + n = omega arith in
      loaded-then (upward (16 + x) n) ((16 + x + n) ∷ []) p (subst (λ y. Loaded a.0 (y ∷ []) h) same (loaded-d (x + n) a.0 h (b n (omega arith)) p.whole a.2))
