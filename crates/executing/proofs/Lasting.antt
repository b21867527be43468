-- The last instruction before FF does what its code does, and loads the pc where the code loads LR.
-- Assumes nothing.
use Rattle.std.specs.Prelude.{if◌then◌else◌, Ok}
use Prim.Native.Nat.{ℕ, ◌+◌, ◌/◌, ◌%◌, ◌^◌, ◌≤◌, ◌<◌}
use mathlib.Core.Path.{◌≡◌, refl, sym, ap, subst, ◌∙◌}
use mathlib.Core.Bool.{Bool, true, false}
use mathlib.Core.Logic.{◌≢◌}
use mathlib.Core.List.{List, [], ◌∷◌, append-nil}
use lib.Dec.{eqb}
use native.Mathlib.Omega.{arith}
use borrow.Author.Tests.{eqb-true}
use Rattle.words.specs.Bits.{bit, bits, even}
use Rattle.words.specs.Units.{stack_bytes}
use Rattle.words.specs.declared.StackWords.{StackWords}
use Rattle.words.proofs.Answers.{bind_ok}
use Rattle.lent.specs.Lent.{Lent, holds, word_at}
use Rattle.codes.specs.declared.Undo.{Undo}
use Rattle.codes.specs.declared.Undo.TheVariants.{Up, Pop, SpFrom, Vpop, LoadLr, Nothing}
use Rattle.codes.proofs.Registers.{RegisterList, list-small, list-no-sp}
use Rattle.codes.proofs.Sound.{Sound}
use Rattle.machine.specs.Registers.{set_reg, set_sp}
use Rattle.machine.specs.Step.{pop_reg, pop, effect}
use Rattle.machine.specs.declared.Regs.{Regs}
use Rattle.machine.proofs.Loading.{holding}
use Rattle.thumb.specs.declared.Action.{Action}
use Rattle.thumb.specs.declared.Action.TheVariants as T
use Rattle.expected.specs.Expected.{with_pc, loading, acts_after}
use Rattle.fitting.specs.Exactly.{As}
use Rattle.forward.specs.Registers.{value}
use Rattle.forward.specs.Saving.{listed, bytes}
use Rattle.forward.specs.State.{Whole, State}
use Rattle.forward.specs.Epilogue.{Undoes}
use Rattle.forward.proofs.Ops.{upd-cases}
use Rattle.forward.proofs.Steps.{value_same}
use Rattle.forward.proofs.Writing.{value-reg}
use Rattle.executing.specs.Manual.{Loads, Acts, LoadsPc, Next}
use Rattle.executing.specs.Claims.{Low, LoadsLr, Returns}
use Rattle.executing.proofs.Popping.{bytes-append, Loaded, loaded-none, loaded_word, loaded-list}
use Rattle.executing.proofs.Closing.{plus-is, LrLoaded, lr-loaded, popped, undoes-of}

-- a code that loads no LR
returns_as : (u : Undo) (s t : State) → (LoadsLr u → ⊥) → Undoes u s t → Returns u s t
returns_as u s t n f = record {
  does = λ after e. let d = f.does after e in (d.0, λ x q. value_same d.1 x);
  pc = λ l. absurd (n l);
  stack = f.stack;
}

-- LR's word goes to the pc, and all else is as the code leaves it
pub record ToPc (n : ℕ) (xs : List ℕ) (s t : State) : Type 0 where
  pub loads : Loads (bytes xs + n) xs s t
  pub pc : LoadsPc (s.regs.sp + bytes xs) s t

lr-to-pc :
    (n : ℕ) (xs : List ℕ) (s t : State) (i after : Regs) → ToPc n xs s t → Loaded s.stack s.regs xs i → LrLoaded s.stack n i after → after.sp < 2 ^ 32
    → (t.regs.sp ≡ after.sp) × ((x : ℕ) → x ≢ 14 → value t.regs x ≡ value after x) × (t.regs.pc ≡ even after.lr)
lr-to-pc n xs s t i after f l h m =
    let w = loaded_word s.stack i.sp h.word h.given in
    let lr : after.lr ≡ h.word = ap (λ (g : Regs). g.lr) (sym h.is) in
    let sp : after.sp ≡ i.sp + n = ap (λ (g : Regs). g.sp) (sym h.is) in
    let at : s.regs.sp + bytes xs ≡ i.sp = sym l.sp in (
      f.loads.sp ∙ plus-is s.regs.sp (bytes xs + n) after.sp (omega (arith, l.sp, sp)) m,
      λ x q.
          sym (l.same t.regs f.loads.loaded x (f.loads.rest x))
          ∙ sym (other x q)
          ∙ ap (λ (g : Regs). value g x) h.is,
      f.pc (subst (λ a. holds s.stack a 4 ≡ true) (sym at) (holding s.stack i.sp 4 w.low w.high))
          ∙ ap even (ap (word_at s.stack) at ∙ sym w.is ∙ sym lr),
    )
  where
    other : (x : ℕ) → x ≢ 14 → value (set_sp (set_reg i 14 h.word) (i.sp + n)) x ≡ value i x
    other x q =
        ap (λ v. v x) (value-reg i 14 h.word l.whole (omega arith) (λ z. omega arith))
        ∙ upd-cases (λ v. v ≡ value i x) (value i) 14 h.word x (λ e. absurd (q e)) (λ e. refl)

-- ---- pop
module _ (l : ℕ) (h : RegisterList l) (b : bit 14 l ≡ true) where
  abbrev swapped : ℕ
  swapped = l + 2 ^ 14

  big : 2 ^ 14 ≤ l
  big = omega (arith, eqb-true (bits 14 1 l) 1 b)

  -- the bits below LR's
  bit-as : (i : ℕ) → bits i 1 swapped ≡ bits i 1 l → bit i swapped ≡ bit i l
  bit-as i e = ap (λ n. eqb n 1) e

  same_low : listed swapped 7 ≡ listed l 7
  same_low =
      rw (bit-as 0 (omega arith), bit-as 1 (omega arith), bit-as 2 (omega arith), bit-as 3 (omega arith), bit-as 4 (omega arith), bit-as 5 (omega arith), bit-as 6 (omega arith))
      refl

  same-below : listed swapped 14 ≡ listed l 14
  same-below =
      rw (same_low, bit-as 7 (omega arith), bit-as 8 (omega arith), bit-as 9 (omega arith), bit-as 10 (omega arith), bit-as 11 (omega arith), bit-as 12 (omega arith), bit-as 13 (omega arith))
      refl

  no-lr : bit 14 swapped ≡ false
  no-lr = let q : swapped / 2 ^ 14 ≡ 2 = omega (arith, big, list-small l h) in ap (λ n. eqb (n % 2 ^ 1) 1) q

  has-pc : bit 15 swapped ≡ true
  has-pc = let q : swapped / 2 ^ 15 ≡ 1 = omega (arith, big, list-small l h) in ap (λ n. eqb (n % 2 ^ 1) 1) q

  same-list : listed swapped 15 ≡ listed l 14
  same-list = rw no-lr (append-nil (listed swapped 14) ∙ same-below)

  with-pc : bytes (listed swapped 16) ≡ bytes (listed l 14) + 4
  with-pc = bytes-append (listed swapped 15) (if bit 15 swapped then 15 ∷ [] else []) ∙ rw (same-list, has-pc) refl

  popped-pc : (n : ℕ) (s t : State) → Acts (T.Pop swapped) s t → Next (T.Pop swapped) n s t → ToPc 4 (listed l 14) s t
  popped-pc n s t f g =
      record {
        loads = subst (λ xs. Loads (bytes (listed l 14) + 4) xs s t) same-list (subst (λ m. Loads m (listed swapped 15) s t) with-pc f);
        pc = subst (λ xs. LoadsPc (s.regs.sp + bytes xs) s t) same-list (rw has-pc at g);
      }

  -- the code's effect, taken apart
  record Parts (k : Lent) (g after : Regs) : Type 0 where
    mid : Regs
    loaded : Loaded k g (listed l 14) mid
    lr : LrLoaded k 4 mid after

  parts : (k : Lent) (g after : Regs) → Whole g → pop k l 15 g ≡ Ok after → Parts k g after
  unfolding pop pop_reg
  parts k g after w e =
      let a = bind_ok (pop k l 14 g) _ after e in
      record { mid = a.0; loaded = loaded-list k l 14 g a.0 (list-no-sp l h) (omega arith) w a.1; lr = lr-loaded k 4 a.0 after (subst (λ t. (if t then pop_reg k 14 a.0 else Ok a.0) ≡ Ok after) b a.2) }

  returns-pop : (n : ℕ) (s t : State) → Acts (T.Pop swapped) s t → Next (T.Pop swapped) n s t → Low (Pop l) s → Returns (Pop l) s t
  returns-pop n s t f g low = record {
    does = λ after e. let r = all after e in (r.0, r.1);
    pc = λ q after e. (all after e).2;
    stack = f.stack;
  }
    where
      all : (after : Regs) → pop s.stack l 15 s.regs ≡ Ok after → (t.regs.sp ≡ after.sp) × ((x : ℕ) → x ≢ 14 → value t.regs x ≡ value after x) × (t.regs.pc ≡ even after.lr)
      all after e = let p = parts s.stack s.regs after s.whole e in lr-to-pc 4 (listed l 14) s t p.mid after (popped-pc n s t f g) p.loaded p.lr (low after e)

-- ---- a load of LR
loaded-pc : (m n : ℕ) (s t : State) → Acts (loading 15 n) s t → Next (loading 15 n) m s t → ToPc n [] s t
loaded-pc m n s t = go (eqb n 4) refl
  where
    put : Loads n [] s t → LoadsPc s.regs.sp s t → ToPc n [] s t
    put f g = record {
      loads = subst (λ i. Loads i [] s t) (let z : n ≡ 0 + n = omega arith in z) f;
      pc = subst (λ i. LoadsPc i s t) (let z : s.regs.sp ≡ s.regs.sp + 0 = omega arith in z) g;
    }

    go : (q : Bool) → eqb n 4 ≡ q → Acts (if q then T.Pop (2 ^ 15) else T.Load 15 n) s t → Next (if q then T.Pop (2 ^ 15) else T.Load 15 n) m s t → ToPc n [] s t
    go true e f g =
        put (subst (λ i. Loads i [] s t) (sym (eqb-true n 4 e)) f) (subst (λ i. LoadsPc i s t) (let z : s.regs.sp + 0 ≡ s.regs.sp = omega arith in z) g)
    go false e f g = put f g

returns-lr : (n : StackWords) (s t : State) → ToPc (stack_bytes n) [] s t → Low (LoadLr n) s → Returns (LoadLr n) s t
returns-lr n s t f low = record {
  does = λ after e. let r = all after e in (r.0, r.1);
  pc = λ q after e. (all after e).2;
  stack = f.loads.stack;
}
  where
    all :
        (after : Regs) → effect s.stack (LoadLr n) s.regs ≡ Ok after
        → (t.regs.sp ≡ after.sp) × ((x : ℕ) → x ≢ 14 → value t.regs x ≡ value after x) × (t.regs.pc ≡ even after.lr)
    all after e =
        lr-to-pc (stack_bytes n) [] s t s.regs after f (loaded-none s.stack s.regs s.whole) (lr-loaded s.stack (stack_bytes n) s.regs after e) (low after e)

-- ---- by the code
returns-list : (l m : ℕ) (s t : State) → RegisterList l → Acts (T.Pop (with_pc l)) s t → Next (T.Pop (with_pc l)) m s t → Low (Pop l) s → Returns (Pop l) s t
returns-list l m s t o f g low = go (bit 14 l) refl f g
  where
    go : (q : Bool) → bit 14 l ≡ q → Acts (T.Pop (if q then l + 2 ^ 14 else l)) s t → Next (T.Pop (if q then l + 2 ^ 14 else l)) m s t → Returns (Pop l) s t
    go true e f g = returns-pop l o e m s t f g low
    go false e f g =
        returns_as (Pop l) s t (λ (q : bit 14 l ≡ true). let z : ◌≡◌ {A = ℕ} 0 1 = cc in omega arith)
        (undoes-of (Pop l) s t (λ q. let z : ◌≡◌ {A = ℕ} 0 1 = cc in omega arith) o (popped l s t o f) low)

pub returning :
    (u : Undo) (a : Action) (m : ℕ) (s t : State) → u ≢ Nothing → Sound u → As (acts_after true u) a → Acts a s t → Next a m s t → Low u s → Returns u s t
returning (Up n) a m s t k o e f g low = returns_as (Up n) s t (λ q. q) (undoes-of (Up n) s t k o (subst (λ x. Acts x s t) e f) low)
returning (Pop l) a m s t k o e f g low = returns-list l m s t o (subst (λ x. Acts x s t) e f) (subst (λ x. Next x m s t) e g) low
returning (SpFrom x) a m s t k o e f g low = returns_as (SpFrom x) s t (λ q. q) (undoes-of (SpFrom x) s t k o (subst (λ y. Acts y s t) e f) low)
returning (Vpop i j) a m s t k o e f g low = returns_as (Vpop i j) s t (λ q. q) (undoes-of (Vpop i j) s t k o (subst (λ x. Acts x s t) e f) low)
returning (LoadLr n) a m s t k o e f g low =
    returns-lr n s t (loaded-pc m (stack_bytes n) s t (subst (λ x. Acts x s t) e f) (subst (λ x. Next x m s t) e g)) low
returning Nothing a m s t k o e f g low = absurd (k refl)
