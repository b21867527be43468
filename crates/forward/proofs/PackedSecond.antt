-- A packed record's two lists undo the same prologue: the second has no nop, may load LR by itself with the home words, and may fold
-- other words into its list than the first.
-- Assumes nothing.
use Rattle.std.specs.Prelude.{if◌then◌else◌}
use Prim.Native.Nat.{ℕ, ◌+◌, ◌-◌, ◌%◌, ◌≤◌, ◌<◌}
use mathlib.Core.Path.{◌≡◌, refl, sym, ap, ap₂, ◌∙◌, subst}
use mathlib.Core.List.{List, [], ◌∷◌, ◌++◌, append_assoc, append-nil}
use mathlib.Core.Bool.{Bool, true, false, ◌&&◌, ◌||◌, not}
use mathlib.Core.Logic.{◌≢◌, ◌⊎◌, inl, inr}
use lib.Dec.{leb, eqb}
use native.Mathlib.Omega.{arith}
use borrow.Author.Tests.{not-true, eqb-true, eqb-false, eq-eqb, ne_eqb}
use Rattle.words.specs.Bits.{bit}
use Rattle.words.specs.Units.{stack_words}
use Rattle.words.specs.declared.Halfwords.{Halfwords}
use Rattle.codes.specs.Table.{lr_if, bits16, bits32}
use Rattle.codes.specs.declared.Code.{Code}
use Rattle.codes.specs.declared.Undo.{Undo}
use Rattle.codes.specs.declared.Undo.TheVariants.{Up, Pop, Vpop, LoadLr, Nothing}
use Rattle.packed.specs.Packed.{Fit, allowed, folded, amount, PF, EF, integers}
use Rattle.packed_codes.specs.PackedCodes.{low, pushed, chain_alone}
use Rattle.packed.specs.declared.Packed.{Packed}
use Rattle.packed_codes.specs.Lists.{only, size_if, ups, vpops, pops, nops, homes, prologue_codes, leaving, leaves, epilogue_codes}
use Rattle.packed_codes.proofs.Decoding.{prologue-is}
use Rattle.forward.specs.Registers.{Lasting}
use Rattle.forward.specs.Saving.{listed, upward, IsRX, RX}
use Rattle.forward.specs.Epilogues.{SavesD}
use Rattle.forward.proofs.Ops.{Op, skip, load, Seen, Need}
use Rattle.forward.proofs.Back.{St, Inv}
use Rattle.forward.proofs.Flat.{loads, flat, flat_append, loads-append, lasting-range}
use Rattle.forward.proofs.Fold as Fold
use Rattle.words.proofs.Tests.{both}
use Rattle.forward.proofs.Scanned.{fourth}
use Rattle.forward.proofs.Ready.{Second}
use Rattle.forward.proofs.PackedRegisters.{folds, names, lrs, clash, registers}

-- ---- the steps of each piece
flat-pop : (w : Bool) (l b : ℕ) → flat (pops w l b) ≡ loads (listed (l + lr_if b) 15)
flat-pop w l b = go (eqb (l + b) 0) refl
  where
    go : (t : Bool) → eqb (l + b) 0 ≡ t → flat (only (not t) (Pop (l + lr_if b)) (size_if w)) ≡ loads (listed (l + lr_if b) 15)
    go true e =
        let p : l ≡ 0 = omega (arith, eqb-true (l + b) 0 e) in
        let q : b ≡ 0 = omega (arith, eqb-true (l + b) 0 e) in
        ap₂ (λ i j. loads (listed (i + lr_if j) 15)) (sym p) (sym q)
    go false e = append-nil (loads (listed (l + lr_if b) 15))

abbrev home_ops : Packed → List Op
home_ops p = if eqb p.h 1 then skip 4 ∷ [] else []

flat-homes : (p : Packed) → flat (homes p) ≡ home_ops p
flat-homes p = go (eqb p.h 1)
  where
    go : (t : Bool) → flat (only t (Up (stack_words 4)) bits16) ≡ (if t then skip 4 ∷ [] else [])
    go true = refl
    go false = refl

flat-nops : (p : Packed) → flat (nops p) ≡ []
flat-nops p = go (eqb p.c 1) (size_if (chain_alone (pushed p)))
  where
    go : (t : Bool) (n : Halfwords) → flat (only t Nothing n) ≡ []
    go true n = refl
    go false n = refl

-- ---- both lists' steps
abbrev tail : Packed → List Op
tail p = loads (names p.r p.reg p.c ++ lrs p.l) ++ home_ops p

abbrev body : Packed → Bool → List Op
body p f = loads (folds f (p.adjust % 4)) ++ tail p

abbrev shape : Packed → Bool → List Op
shape p f = flat (ups p f) ++ (flat (vpops p) ++ body p f)

module _ (p : Packed) (w : Fit p) (ok : clash p.r p.reg p.c ≡ false) where
  -- a pop of the whole list, and then the home words
  plain : (t f : Bool) (h : List Op) → flat (pops t (integers p f) p.l) ++ h ≡ loads (folds f (p.adjust % 4)) ++ (loads (names p.r p.reg p.c ++ lrs p.l) ++ h)
  plain t f h =
      ap (λ x. x ++ h) (flat-pop t (integers p f) p.l ∙ ap loads (registers p w f p.l w.l ok) ∙ loads-append (folds f (p.adjust % 4)) (names p.r p.reg p.c ++ lrs p.l))
      ∙ append_assoc (loads (folds f (p.adjust % 4))) (loads (names p.r p.reg p.c ++ lrs p.l)) h

  pub flat-first : flat (prologue_codes p).list ≡ shape p (PF p)
  flat-first =
      let l : ℕ = integers p (PF p) in
      ap flat (prologue-is p)
      ∙ flat_append (ups p (PF p) ++ vpops p ++ nops p ++ pops (low l) l p.l) (homes p)
      ∙ ap₂ ◌++◌
      (flat_append (ups p (PF p) ++ vpops p ++ nops p) (pops (low l) l p.l)
      ∙ ap (λ x. x ++ flat (pops (low l) l p.l))
      (flat_append (ups p (PF p) ++ vpops p) (nops p) ∙ ap₂ ◌++◌ (flat_append (ups p (PF p)) (vpops p)) (flat-nops p) ∙ append-nil (flat (ups p (PF p)) ++ flat (vpops p))))
      (flat-homes p)
      ∙ append_assoc (flat (ups p (PF p)) ++ flat (vpops p)) (flat (pops (low l) l p.l)) (home_ops p)
      ∙ ap (λ x. flat (ups p (PF p)) ++ flat (vpops p) ++ x) (plain (low l) (PF p) (home_ops p))
      ∙ append_assoc (flat (ups p (PF p))) (flat (vpops p)) (body p (PF p))

  -- LR by itself, with the home words, is LR last in the list and then the home words
  alone : (f : Bool) → p.h ≡ 1 → p.l ≡ 1 → flat (leaving true true p (integers p f)).list ≡ body p f
  alone f h l =
      let F : List ℕ = folds f (p.adjust % 4) in
      let N : List ℕ = names p.r p.reg p.c in
      flat_append (pops (low (integers p f)) (integers p f) 0) (only true (LoadLr (stack_words 5)) bits32)
      ∙ ap (λ x. x ++ (load 14 ∷ skip 4 ∷ []))
      (flat-pop (low (integers p f)) (integers p f) 0
      ∙ ap loads (registers p w f 0 (omega arith) ok ∙ ap (λ x. F ++ x) (append-nil N))
      ∙ loads-append F N)
      ∙ append_assoc (loads F) (loads N) (load 14 ∷ skip 4 ∷ [])
      ∙ ap (λ x. loads F ++ x) (sym (append_assoc (loads N) (load 14 ∷ []) (skip 4 ∷ [])) ∙ ap (λ x. x ++ (skip 4 ∷ [])) (sym (loads-append N (14 ∷ []))))
      ∙ ap₂ (λ i j. loads F ++ (loads (N ++ (if i then 14 ∷ [] else [])) ++ (if j then skip 4 ∷ [] else []))) (sym (eq-eqb p.l 1 l)) (sym (eq-eqb p.h 1 h))

  flat-leaves : (f : Bool) → (p.ret ≡ 0 → p.l ≢ 0) → flat (leaving (eqb p.h 1 && eqb p.l 1) (eqb p.ret 0) p (integers p f)).list ≡ body p f
  flat-leaves f n = go (eqb p.h 1 && eqb p.l 1) (eqb p.ret 0) refl refl
    where
      go : (s t : Bool) → (eqb p.h 1 && eqb p.l 1) ≡ s → eqb p.ret 0 ≡ t → flat (leaving s t p (integers p f)).list ≡ body p f
      go true t e q =
          let u = both (eqb p.h 1) (eqb p.l 1) e in
          alone f (eqb-true p.h 1 u.0) (eqb-true p.l 1 u.1)
      go false true e q =
          let l : p.l ≡ 1 = omega (arith, w.l, n (eqb-true p.ret 0 q)) in
          let h : eqb p.h 1 ≡ false = other (eqb p.h 1) (eqb p.l 1) e (eq-eqb p.l 1 l) in
          sym (append-nil (flat (pops (low (integers p f)) (integers p f) p.l)))
          ∙ plain (low (integers p f)) f []
          ∙ ap (λ x. loads (folds f (p.adjust % 4)) ++ (loads (names p.r p.reg p.c ++ lrs p.l) ++ (if x then skip 4 ∷ [] else []))) (sym h)
        where
          other : (a b : Bool) → (a && b) ≡ false → b ≡ true → a ≡ false
          other true b e q = absurd (let z : ◌≡◌ {A = ℕ} 0 1 = cc in omega arith)
          other false b e q = refl
      go false false e q =
          flat_append (pops (low (integers p f) && eqb p.l 0) (integers p f) p.l) (homes p)
          ∙ ap (λ x. flat (pops (low (integers p f) && eqb p.l 0) (integers p f) p.l) ++ x) (flat-homes p)
          ∙ plain (low (integers p f) && eqb p.l 0) f (home_ops p)

  pub flat-second : (p.ret ≡ 0 → p.l ≢ 0) → flat (epilogue_codes p).list ≡ shape p (EF p)
  flat-second n =
      flat_append (ups p (EF p) ++ vpops p) (leaves p).list
      ∙ ap₂ ◌++◌ (flat_append (ups p (EF p)) (vpops p)) (flat-leaves (EF p) n)
      ∙ append_assoc (flat (ups p (EF p))) (flat (vpops p)) (body p (EF p))

-- ---- PF and EF apart: a push of r0-r3 against a fall of SP
need-past : (xs : List ℕ) (os : List Op) (x : ℕ) → Need (loads xs ++ os) x → Need os x
need-past [] os x n = n
need-past (y ∷ ys) os x n = need-past ys os x n.1

-- no register below r4 is needed before the rest of the list
low-dead : (p : Packed) (x : ℕ) → x ≤ 3 → Need (tail p) x → ⊥
low-dead p x h n = lasting-range x (go (eqb p.h 1) (need-past (names p.r p.reg p.c ++ lrs p.l) (home_ops p) x n)) (inl h)
  where
    go : (t : Bool) → Need (if t then skip 4 ∷ [] else []) x → Lasting x
    go true q = q
    go false q = q

module _ (p : Packed) (base : ℕ) (e : St) (b : Seen) (m : ℕ → ℕ) where
  record Folds (a : ℕ) : Type 0 where
    down : Inv base e (loads (upward (3 - a) (a + 1)) ++ tail p) b m → Inv base e (skip (a + 1) ∷ tail p) b m
    up : Inv base e (skip (a + 1) ∷ tail p) b m → Inv base e (loads (upward (3 - a) (a + 1)) ++ tail p) b m

  dead : (x : ℕ) → x ≤ 3 → Need (tail p) x → ⊥
  dead x h n = low-dead p x h n

  folds-0 : Folds 0
  folds-0 =
      let d : Fold.Dead (tail p) (3 ∷ []) = (dead 3 (omega arith), tt) in
      record { down = Fold.folded 3 [] (tail p) 1 refl d; up = Fold.unfolded 3 [] (tail p) 1 refl d }

  folds-1 : Folds 1
  folds-1 =
      let d : Fold.Dead (tail p) (2 ∷ 3 ∷ []) = (dead 2 (omega arith), (dead 3 (omega arith), tt)) in
      record { down = Fold.folded 2 (3 ∷ []) (tail p) 2 refl d; up = Fold.unfolded 2 (3 ∷ []) (tail p) 2 refl d }

  folds-2 : Folds 2
  folds-2 =
      let d : Fold.Dead (tail p) (1 ∷ 2 ∷ 3 ∷ []) = (dead 1 (omega arith), (dead 2 (omega arith), (dead 3 (omega arith), tt))) in
      record { down = Fold.folded 1 (2 ∷ 3 ∷ []) (tail p) 3 refl d; up = Fold.unfolded 1 (2 ∷ 3 ∷ []) (tail p) 3 refl d }

  folds-3 : Folds 3
  folds-3 =
      let d : Fold.Dead (tail p) (0 ∷ 1 ∷ 2 ∷ 3 ∷ []) = (dead 0 (omega arith), (dead 1 (omega arith), (dead 2 (omega arith), (dead 3 (omega arith), tt)))) in
      record { down = Fold.folded 0 (1 ∷ 2 ∷ 3 ∷ []) (tail p) 4 refl d; up = Fold.unfolded 0 (1 ∷ 2 ∷ 3 ∷ []) (tail p) 4 refl d }

  folds-all : (a : ℕ) → a < 4 → Folds a
  folds-all = fourth Folds folds-0 folds-1 folds-2 folds-3

  -- without d registers, folded and not
  shape-true : vpops p ≡ [] → shape p true ≡ loads (upward (3 - p.adjust % 4) (p.adjust % 4 + 1)) ++ tail p
  shape-true d = ap (λ v. flat v ++ body p true) d

  shape-false : vpops p ≡ [] → folded p ≡ true → shape p false ≡ skip (p.adjust % 4 + 1) ∷ tail p
  shape-false d f =
      let n : ℕ = p.adjust % 4 + 1 in
      ap (λ v. flat (ups p false) ++ (flat v ++ body p false)) d
      ∙ ap (λ t. let m : ℕ = if t then n else p.adjust in flat (only (not (eqb m 0)) (Up (stack_words m)) (size_if (leb m 127))) ++ tail p) f
      ∙ ap (λ t. flat (only (not t) (Up (stack_words n)) (size_if (leb n 127))) ++ tail p) (ne_eqb n 0 (λ q. omega arith))

  shapes :
      (f g : Bool) → (f ≡ true → folded p ≡ true) → (g ≡ true → folded p ≡ true) → vpops p ≡ [] → Inv base e (shape p f) b m → Inv base e (shape p g) b m
  shapes true true hf hg d v = v
  shapes false false hf hg d v = v
  shapes true false hf hg d v =
      subst (λ x. Inv base e x b m) (sym (shape-false d (hf refl)))
      ((folds-all (p.adjust % 4) (omega arith)).down (subst (λ x. Inv base e x b m) (shape-true d) v))
  shapes false true hf hg d v =
      subst (λ x. Inv base e x b m) (sym (shape-true d))
      ((folds-all (p.adjust % 4) (omega arith)).up (subst (λ x. Inv base e x b m) (shape-false d (hg refl)) v))

-- ---- no rX
NoRX : List Code → Type 0
NoRX cs = (x : ℕ) → RX cs x → ⊥

no-append : (a b : List Code) → NoRX a → NoRX b → NoRX (a ++ b)
unfolding NoRX
no-append [] b h k x q = k x q
no-append (c ∷ a) b h k x (inl q) = h x (inl q)
no-append (c ∷ a) b h k x (inr q) = no-append a b (λ y z. h y (inr z)) k x q

no-only : (t : Bool) (u : Undo) (n : Halfwords) → ((x : ℕ) → IsRX u x → ⊥) → NoRX (only t u n)
unfolding NoRX
no-only true u n h x (inl q) = h x q
no-only true u n h x (inr q) = q
no-only false u n h x q = q

no-pop : (t : Bool) (l b : ℕ) → NoRX (pops t l b)
no-pop t l b = no-only (not (eqb (l + b) 0)) (Pop (l + lr_if b)) (size_if t) (λ x q. q)

no-leaves : (p : Packed) (l : ℕ) (s t : Bool) → NoRX (leaving s t p l).list
no-leaves p l true t = no-append (pops (low l) l 0) (only true (LoadLr (stack_words 5)) bits32) (no-pop (low l) l 0) (no-only true (LoadLr (stack_words 5)) bits32 (λ x q. q))
no-leaves p l false true = no-pop (low l) l p.l
no-leaves p l false false =
    no-append (pops (low l && eqb p.l 0) l p.l) (homes p) (no-pop (low l && eqb p.l 0) l p.l) (no-only (eqb p.h 1) (Up (stack_words 4)) bits16 (λ x q. q))

no_second : (p : Packed) → NoRX (epilogue_codes p).list
no_second p =
    no-append (ups p (EF p) ++ vpops p) (leaves p).list
    (no-append (ups p (EF p)) (vpops p) (no-only (not (EF p) && not (eqb (amount p).0 0)) (Up (amount p)) (size_if (leb (amount p).0 127)) (λ x q. q))
    (no-only (eqb p.r 1 && not (eqb p.reg 7)) (Vpop 8 (8 + p.reg)) bits32 (λ x q. q)))
    (no-leaves p (integers p (EF p)) (eqb p.h 1 && eqb p.l 1) (eqb p.ret 0))

-- ---- the second list
-- what RULES 4.5 leaves of a packed word: it can return, and r11 is not named twice
record Allowed (p : Packed) : Type 0 where
  returns : p.ret ≡ 0 → p.l ≢ 0
  clashes : clash p.r p.reg p.c ≡ false

is-allowed : (p : Packed) → allowed p ≡ true → Allowed p
is-allowed p h =
    let a = both ((eqb p.flag 1 || eqb p.flag 2) && not (eqb p.ret 0 && eqb p.l 0) && not (eqb p.c 1 && eqb p.l 0)) (not (clash p.r p.reg p.c)) h in
    let b = both ((eqb p.flag 1 || eqb p.flag 2) && not (eqb p.ret 0 && eqb p.l 0)) (not (eqb p.c 1 && eqb p.l 0)) a.0 in
    let c = both (eqb p.flag 1 || eqb p.flag 2) (not (eqb p.ret 0 && eqb p.l 0)) b.0 in
    record { returns = λ q r. no (eqb p.ret 0) (eqb p.l 0) c.1 (eq-eqb p.ret 0 q) (eq-eqb p.l 0 r); clashes = not-true _ a.1 }
  where
    no : (a b : Bool) → not (a && b) ≡ true → a ≡ true → b ≡ true → ⊥
    no true true h p q = let z : ◌≡◌ {A = ℕ} 0 1 = cc in omega arith
    no true false h p q = let z : ◌≡◌ {A = ℕ} 0 1 = cc in omega arith
    no false b h p q = let z : ◌≡◌ {A = ℕ} 0 1 = cc in omega arith

-- d registers are saved, and then PF = EF; or none are
same-or-none : (p : Packed) → (SavesD p → PF p ≡ EF p) → (PF p ≡ EF p) ⊎ (vpops p ≡ [])
same-or-none p h = go (eqb p.r 1) (eqb p.reg 7) refl refl
  where
    go : (s t : Bool) → eqb p.r 1 ≡ s → eqb p.reg 7 ≡ t → (PF p ≡ EF p) ⊎ (only (s && not t) (Vpop 8 (8 + p.reg)) bits32 ≡ [])
    go true true e f = inr refl
    go true false e f = inl (h (eqb-true p.r 1 e, eqb-false p.reg 7 f))
    go false t e f = inr refl

pub packed-second : (p : Packed) → Fit p → allowed p ≡ true → (SavesD p → PF p ≡ EF p) → Second (prologue_codes p).list (epilogue_codes p).list
unfolding NoRX
packed-second p w a h = record {
  inv = λ base e b m v.
      subst (λ x. Inv base e x b m) (sym (flat-second p w (is-allowed p a).clashes (is-allowed p a).returns))
      (go base e b m (same-or-none p h) (subst (λ x. Inv base e x b m) (flat-first p w (is-allowed p a).clashes) v));
  r_x = λ x q. absurd (no_second p x q);
}
  where
    go : (base : ℕ) (e : St) (b : Seen) (m : ℕ → ℕ) → (PF p ≡ EF p) ⊎ (vpops p ≡ []) → Inv base e (shape p (PF p)) b m → Inv base e (shape p (EF p)) b m
    go base e b m (inl q) v = subst (λ f. Inv base e (shape p f) b m) q v
    go base e b m (inr q) v = shapes p base e b m (PF p) (EF p) (λ z. (both (folded p) (bit 2 p.adjust) z).0) (λ z. (both (folded p) (bit 3 p.adjust) z).0) q v
