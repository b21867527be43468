-- Undoing in steps of one register each, over registers as one function and memory as one: what a step does, and which registers and
-- words undoing a list of steps still needs.
-- Assumes nothing.
use Rattle.std.specs.Prelude.{if◌then◌else◌}
use Prim.Native.Nat.{ℕ, ◌+◌, ◌*◌, ◌%◌, ◌^◌, ◌≤◌}
use mathlib.Core.Path.{◌≡◌, refl, ap₂, ◌∙◌}
use mathlib.Core.Bool.{Bool, true, false}
use mathlib.Core.Logic.{◌≢◌, ◌⊎◌}
use mathlib.Core.List.{List, [], ◌∷◌}
use lib.Dec.{ltb, eqb}
use native.Mathlib.Omega.{arith}
use borrow.Author.Tests.{eqb-true, eqb-false}
use Rattle.forward.specs.Registers.{width, Lasting}

pub data Op : Type 0 where
  skip : ℕ → Op  -- SP + 4 x n
  load : ℕ → Op  -- a register from the word, or the two words, at SP, and SP past them
  from : ℕ → Op  -- SP = r x
  peek : Op  -- LR from the word at SP, SP stays (EF 00)

-- SP, and the registers by number
pub record Seen : Type 0 where
  pub sp : ℕ
  pub r : ℕ → ℕ

abbrev pub upd : (ℕ → ℕ) → ℕ → ℕ → ℕ → ℕ
upd f x v y = if eqb y x then v else f y

-- a register's value in the words at an address
abbrev pub val : ℕ → (ℕ → ℕ) → ℕ → ℕ
val x m a = if ltb x 16 then m a else m a + 2 ^ 32 * m (a + 4)

-- m: the word at an address
abbrev pub does : (ℕ → ℕ) → Op → Seen → Seen
does m (skip n) u = record { sp = u.sp + 4 * n; r = u.r }
does m (load x) u = record { sp = u.sp + width x; r = upd u.r x (val x m u.sp) }
does m (from x) u = record { sp = u.r x; r = u.r }
does m peek u = record { sp = u.sp; r = upd u.r 14 (m u.sp) }

-- the value that register x has now is one that undoing the list needs: it is the caller's, or SP will be taken from it
abbrev pub Need : List Op → ℕ → Type 0
Need [] x = Lasting x
Need (skip n ∷ cs) x = Need cs x
Need (load y ∷ cs) x = (x ≢ y) × Need cs x
Need (from y ∷ cs) x = (x ≡ y) ⊎ Need cs x
Need (peek ∷ cs) x = (x ≢ 14) × Need cs x

-- from address a on, what the list loads into a register whose value is then needed is the same in both memories
abbrev pub Kept : (ℕ → ℕ) → (ℕ → ℕ) → List Op → ℕ → Type 0
Kept m n [] a = Unit {0}
Kept m n (skip k ∷ cs) a = Kept m n cs (a + 4 * k)
Kept m n (load x ∷ cs) a = (Need cs x → val x m a ≡ val x n a) × Kept m n cs (a + width x)
Kept m n (from x ∷ cs) a = Kept m n cs a
Kept m n (peek ∷ cs) a = (Need cs 14 → m a ≡ n a) × Kept m n cs a

-- ---- small facts
-- the register written, or another one
pub upd-cases : (P : ℕ → Type 0) (f : ℕ → ℕ) (x v y : ℕ) → (y ≡ x → P v) → (y ≢ x → P (f y)) → P (upd f x v y)
upd-cases P f x v y same other = go (eqb y x) refl
  where
    go : (t : Bool) → eqb y x ≡ t → P (if t then v else f y)
    go true e = same (eqb-true y x e)
    go false e = other (eqb-false y x e)

pub width-4 : (x : ℕ) → (4 ≤ width x) × (width x % 4 ≡ 0)
width-4 x = go (ltb x 16)
  where
    go : (t : Bool) → (4 ≤ (if t then 4 else 8)) × ((if t then 4 else 8) % 4 ≡ 0)
    go true = omega arith
    go false = omega arith

-- a value is that of its words
pub val_same : (x : ℕ) (m n : ℕ → ℕ) (a : ℕ) → ((b : ℕ) → a ≤ b → b + 4 ≤ a + width x → n b ≡ m b) → val x n a ≡ val x m a
val_same x m n a h = go (ltb x 16) h
  where
    go :
        (t : Bool) → ((b : ℕ) → a ≤ b → b + 4 ≤ a + (if t then 4 else 8) → n b ≡ m b)
        → (if t then n a else n a + 2 ^ 32 * n (a + 4)) ≡ (if t then m a else m a + 2 ^ 32 * m (a + 4))
    go true h = h a (omega arith) (omega arith)
    go false h = ap₂ (λ v w. v + 2 ^ 32 * w) (h a (omega arith) (omega arith)) (h (a + 4) (omega arith) (omega arith))

pub kept_frame : (m n o : ℕ → ℕ) (cs : List Op) (a : ℕ) → ((x : ℕ) → a ≤ x → n x ≡ o x) → Kept m n cs a → Kept m o cs a
kept_frame m n o [] a h k = tt
kept_frame m n o (skip i ∷ cs) a h k = kept_frame m n o cs (a + 4 * i) (λ x l. h x (omega arith)) k
kept_frame m n o (load i ∷ cs) a h k =
    (λ v. k.0 v ∙ val_same i o n a (λ x p q. h x p), kept_frame m n o cs (a + width i) (λ x l. h x (omega arith)) k.1)
kept_frame m n o (from i ∷ cs) a h k = kept_frame m n o cs a h k
kept_frame m n o (peek ∷ cs) a h k = (λ w. k.0 w ∙ h a (omega arith), kept_frame m n o cs a h k.1)

pub kept_same : (m : ℕ → ℕ) (cs : List Op) (a : ℕ) → Kept m m cs a
kept_same m [] a = tt
kept_same m (skip n ∷ cs) a = kept_same m cs (a + 4 * n)
kept_same m (load x ∷ cs) a = (λ w. refl, kept_same m cs (a + width x))
kept_same m (from x ∷ cs) a = kept_same m cs a
kept_same m (peek ∷ cs) a = (λ w. refl, kept_same m cs a)
