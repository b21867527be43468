-- A prologue's steps, forwards, newest first, as far as undoing needs them; what a state keeps of the one that they left; and that one
-- undo goes back by one step.
-- Assumes nothing.
use Prim.Native.Nat.{ℕ, ◌+◌, ◌*◌, ◌%◌, ◌≤◌}
use mathlib.Core.Path.{◌≡◌, refl, sym, ap, ◌∙◌, subst}
use mathlib.Core.Logic.{◌≢◌, inl, inr}
use mathlib.Core.List.{List, [], ◌∷◌}
use native.Mathlib.Omega.{arith}
use Rattle.forward.specs.Registers.{width, Lasting}
use Rattle.forward.proofs.Ops.{Op, skip, load, from, peek, Seen, val, does, Need, Kept, upd-cases, width-4, kept_frame}

pub record St : Type 0 where
  pub sp : ℕ
  pub r : ℕ → ℕ
  pub m : ℕ → ℕ

-- words at or above a are the same
abbrev pub Above : ℕ → St → St → Type 0
Above a s t = (x : ℕ) → a ≤ x → t.m x ≡ s.m x

-- SP falls by w; registers that undoing cs needs, but for those that R leaves out, and words at or above the old SP are the same
pub record Forward (cs : List Op) (w : ℕ) (R : ℕ → Type 0) (here : Type 0) (s t : St) : Type 0 where
  pub sp : t.sp + w ≡ s.sp
  pub r : (y : ℕ) → R y → Need cs y → t.r y ≡ s.r y
  pub above : Above s.sp s t
  pub at : here

abbrev pub Any : ℕ → Type 0
Any y = Unit {0}

-- the same state, as far as undoing cs can tell
abbrev pub Slack : List Op → St → St → Type 0
Slack cs s t = Forward cs 0 Any (Unit {0}) s t

-- one step forwards, after the steps of cs
abbrev pub Fwd : List Op → Op → St → St → Type 0
Fwd cs (skip n) s t = Forward cs (4 * n) Any (Unit {0}) s t
Fwd cs (load x) s t = Forward cs (width x) (λ y. y ≢ x) (Need cs x → val x t.m t.sp ≡ s.r x) s t
Fwd cs (from x) s t = Forward cs 0 (λ y. y ≢ x) ((t.r x ≡ s.sp) × (Need cs x → ⊥)) s t
Fwd cs peek s t = ⊥

pub data Exec (e : St) : List Op → St → Type 0 where
  done : Exec e [] e
  more : {c : Op} {cs : List Op} {s t : St} → Exec e cs s → Fwd cs c s t → Exec e (c ∷ cs) t

-- SP is the one that the steps left, or the next undo takes it from a register
abbrev pub SpAt : List Op → ℕ → ℕ → Type 0
SpAt [] a b = b ≡ a
SpAt (skip n ∷ cs) a b = b ≡ a
SpAt (load y ∷ cs) a b = b ≡ a
SpAt (from y ∷ cs) a b = Unit {0}
SpAt (peek ∷ cs) a b = b ≡ a

pub record Keeps (cs : List Op) (s : St) (b : Seen) (m : ℕ → ℕ) : Type 0 where
  pub sp_at : SpAt cs s.sp b.sp
  pub regs : (x : ℕ) → Need cs x → b.r x ≡ s.r x
  pub words : Kept m s.m cs s.sp

pub sp-at : (cs : List Op) {a b : ℕ} → b ≡ a → SpAt cs a b
sp-at [] h = h
sp-at (skip n ∷ cs) h = h
sp-at (load n ∷ cs) h = h
sp-at (from n ∷ cs) h = tt
sp-at (peek ∷ cs) h = h

fwd-fits : (cs : List Op) (c : Op) (s t : St) → Fwd cs c s t → s.sp % 4 ≡ 0 → (t.sp ≤ s.sp) × (t.sp % 4 ≡ 0)
fwd-fits cs (skip n) s t f h = omega (arith, f.sp)
fwd-fits cs (load n) s t f h = omega (arith, f.sp, (width-4 n).1)
fwd-fits cs (from n) s t f h = omega (arith, f.sp)
fwd-fits cs peek s t f h = absurd f

pub exec-fits : {e s : St} {cs : List Op} → Exec e cs s → e.sp % 4 ≡ 0 → (s.sp ≤ e.sp) × (s.sp % 4 ≡ 0)
exec-fits done h = omega arith
exec-fits (more {c = c} {cs = cs} {s = s} {t = t} x f) h =
    let i = exec-fits x h in
    let j = fwd-fits cs c s t f i.1 in
    omega arith

-- SP is in the stack, at or below a
pub record Near (base a b : ℕ) : Type 0 where
  pub even : b % 4 ≡ 0
  pub low : base ≤ b
  pub high : b ≤ a

-- registers b and memory m keep some state that the prologue's steps left, entered in the state e
pub record Inv (base : ℕ) (e : St) (cs : List Op) (b : Seen) (m : ℕ → ℕ) : Type 0 where
  pub s : St
  pub exec : Exec e cs s
  pub keeps : Keeps cs s b m
  pub near : Near base s.sp b.sp

module _ (base : ℕ) (e : St) (al : e.sp % 4 ≡ 0) where
  one :
      (c : Op) (cs : List Op) (s t : St) (b : Seen) (m : ℕ → ℕ) → Exec e cs s → Fwd cs c s t → Keeps (c ∷ cs) t b m
      → Near base t.sp b.sp
      → Inv base e cs (does m c b) m
  one (skip n) cs s t b m x f k near =
      let i = exec-fits x al in
      let p : b.sp + 4 * n ≡ s.sp = ap (λ a. a + 4 * n) k.sp_at ∙ f.sp in
      record {
        s = s;
        exec = x;
        keeps = record {
          sp_at = sp-at cs p;
          regs = λ y w. k.regs y w ∙ f.r y tt w;
          words = kept_frame m t.m s.m cs s.sp f.above (subst (λ a. Kept m t.m cs a) f.sp k.words);
        };
        near = record { even = omega arith; low = omega arith; high = omega arith };
      }
  one (load z) cs s t b m x f k near =
      let i = exec-fits x al in
      let p : b.sp + width z ≡ s.sp = ap (λ a. a + width z) k.sp_at ∙ f.sp in
      record {
        s = s;
        exec = x;
        keeps = record {
          sp_at = sp-at cs p;
          regs = λ y w.
              upd-cases (λ u. u ≡ s.r y) b.r z (val z m b.sp) y
              (λ q. ap (val z m) k.sp_at ∙ k.words.0 (subst (Need cs) q w) ∙ f.at (subst (Need cs) q w) ∙ ap s.r (sym q))
              (λ q. k.regs y (q, w) ∙ f.r y q w);
          words = kept_frame m t.m s.m cs s.sp f.above (subst (λ a. Kept m t.m cs a) f.sp k.words.1);
        };
        near = record { even = omega arith; low = omega arith; high = omega arith };
      }
  one (from z) cs s t b m x f k near =
      let i = exec-fits x al in
      let here : t.sp ≡ s.sp = omega (arith, f.sp) in
      let p : b.r z ≡ s.sp = k.regs z (inl refl) ∙ f.at.0 in
      record {
        s = s;
        exec = x;
        keeps = record {
          sp_at = sp-at cs p;
          regs = λ y w. k.regs y (inr w) ∙ f.r y (λ q. f.at.1 (subst (Need cs) q w)) w;
          words = kept_frame m t.m s.m cs s.sp f.above (subst (λ a. Kept m t.m cs a) here k.words);
        };
        near = record { even = omega arith; low = omega arith; high = omega arith };
      }
  one peek cs s t b m x f k near = absurd f

  -- one undo, back by one step
  pub back : {c : Op} {cs : List Op} {b : Seen} {m : ℕ → ℕ} → Inv base e (c ∷ cs) b m → Inv base e cs (does m c b) m
  back v = go v.exec v.keeps v.near
    where
      go :
          {c : Op} {cs : List Op} {b : Seen} {m : ℕ → ℕ} {t : St} → Exec e (c ∷ cs) t → Keeps (c ∷ cs) t b m → Near base t.sp b.sp
          → Inv base e cs (does m c b) m
      go {b} {m} (more {c = c} {cs = cs} {s = s} {t = t} x f) k near = one c cs s t b m x f k near

  -- SP stands in the stack, at or below the caller's
  pub inv-near : {cs : List Op} {b : Seen} {m : ℕ → ℕ} → Inv base e cs b m → Near base e.sp b.sp
  inv-near v =
      let i = exec-fits v.exec al in
      record { even = v.near.even; low = v.near.low; high = omega (arith, v.near.high) }

-- nothing is left to undo: this is the entry
pub record Entry (e : St) (b : Seen) : Type 0 where
  pub sp : b.sp ≡ e.sp
  pub r : (x : ℕ) → Lasting x → b.r x ≡ e.r x

pub inv-entry : {base : ℕ} {e : St} {b : Seen} {m : ℕ → ℕ} → Inv base e [] b m → Entry e b
inv-entry {e} {b} {m} v = go v.exec v.keeps
  where
    go : {s : St} → Exec e [] s → Keeps [] s b m → Entry e b
    go done k = record { sp = k.sp_at; r = k.regs }
