-- The integer lists of packed words, register by register: one computed test over the fields.
-- Assumes nothing.
use Rattle.std.specs.Prelude.{if◌then◌else◌}
use Prim.Native.Nat.{ℕ, zero, suc, ◌+◌, ◌-◌, ◌*◌, ◌%◌, ◌^◌, ◌<◌}
use mathlib.Core.Path.{◌≡◌, refl, sym, ap₂, subst}
use mathlib.Core.List.{List, [], ◌∷◌, ◌++◌}
use mathlib.Core.Bool.{Bool, true, false, ◌&&◌, ◌||◌}
use lib.Dec.{T, eqb, eqb→eq}
use native.Mathlib.Omega.{arith}
use borrow.Author.Tests.{eqb-true, eqb-false}
use Rattle.codes.specs.Table.{range, lr_if}
use Rattle.packed.specs.Packed.{Fit, integers}
use Rattle.packed.specs.declared.Packed.{Packed}
use Rattle.forward.specs.Saving.{listed, upward}

-- ---- a test of every number below another
abbrev all : ℕ → (ℕ → Bool) → Bool
all zero p = true
all (suc n) p = p n && all n p

split : (a b : Bool) → T (a && b) → T a × T b
split true b t = (tt, t)
split false b t = absurd t

all-at : (n : ℕ) (p : ℕ → Bool) (i : ℕ) → T (all n p) → i < n → T (p i)
all-at zero p i t h = absurd (let z : i < 0 = h in omega arith)
all-at (suc n) p i t h = go (eqb i n) refl (split (p n) (all n p) t) (λ q u. all-at n p i u q)
  where
    go : (b : Bool) → eqb i n ≡ b → T (p n) × T (all n p) → (i < n → T (all n p) → T (p i)) → T (p i)
    go true e u ih = subst (λ k. T (p k)) (sym (eqb-true i n e)) u.0
    go false e u ih = ih (omega (arith, eqb-false i n e)) u.1

abbrev same : List ℕ → List ℕ → Bool
same [] [] = true
same [] (y ∷ ys) = false
same (x ∷ xs) [] = false
same (x ∷ xs) (y ∷ ys) = eqb x y && same xs ys

same-eq : (a b : List ℕ) → T (same a b) → a ≡ b
same-eq [] [] t = refl
same-eq [] (y ∷ ys) t = absurd t
same-eq (x ∷ xs) [] t = absurd t
same-eq (x ∷ xs) (y ∷ ys) t =
    let u = split (eqb x y) (same xs ys) t in
    ap₂ ◌∷◌ (eqb→eq x y u.0) (same-eq xs ys u.1)

-- ---- the registers of a list
-- rS-r3
abbrev pub folds : Bool → (a : ℕ) → List ℕ
folds f a = if f then upward (3 - a) (a + 1) else []

-- r4-rN, r11
abbrev pub names : (r reg c : ℕ) → List ℕ
names r reg c = (if eqb r 0 then upward 4 (reg + 1) else []) ++ (if eqb c 1 then 11 ∷ [] else [])

abbrev pub lrs : ℕ → List ℕ
lrs b = if eqb b 1 then 14 ∷ [] else []

abbrev list_of : (r reg c a : ℕ) → Bool → ℕ
list_of r reg c a f = (if eqb r 0 then range 4 (4 + reg) else 0) + (if f then range (3 - a) 3 else 0) + c * 2 ^ 11

-- r11 is named twice, which is refused (RULES 4.5)
abbrev pub clash : (r reg c : ℕ) → Bool
clash r reg c = eqb c 1 && eqb r 0 && eqb reg 7

abbrev right : (r reg c a b : ℕ) → Bool → Bool
right r reg c a b f = clash r reg c || same (listed (list_of r reg c a f + lr_if b) 15) (folds f a ++ (names r reg c ++ lrs b))

abbrev by-b : (r reg c a b : ℕ) → Bool
by-b r reg c a b = right r reg c a b true && right r reg c a b false

abbrev by-a : (r reg c a : ℕ) → Bool
by-a r reg c a = all 2 (by-b r reg c a)

abbrev by-c : (r reg c : ℕ) → Bool
by-c r reg c = all 4 (by-a r reg c)

abbrev by-reg : (r reg : ℕ) → Bool
by-reg r reg = all 2 (by-c r reg)

abbrev by-r : ℕ → Bool
by-r r = all 8 (by-reg r)

tested : T (all 2 by-r)
tested = tt

right-at : (r reg c a b : ℕ) (f : Bool) → r < 2 → reg < 8 → c < 2 → a < 4 → b < 2 → T (right r reg c a b f)
right-at r reg c a b f hr hg hc ha hb =
    go f
    (split (right r reg c a b true) (right r reg c a b false)
    (all-at 2 (by-b r reg c a) b (all-at 4 (by-a r reg c) a (all-at 2 (by-c r reg) c (all-at 8 (by-reg r) reg (all-at 2 by-r r tested hr) hg) hc) ha) hb))
  where
    go : (f : Bool) → T (right r reg c a b true) × T (right r reg c a b false) → T (right r reg c a b f)
    go true u = u.0
    go false u = u.1

pub registers :
    (p : Packed) → Fit p → (f : Bool) (b : ℕ) → b < 2 → clash p.r p.reg p.c ≡ false
    → listed (integers p f + lr_if b) 15 ≡ folds f (p.adjust % 4) ++ (names p.r p.reg p.c ++ lrs b)
registers p w f b h n =
    let rest : Bool = same (listed (integers p f + lr_if b) 15) (folds f (p.adjust % 4) ++ (names p.r p.reg p.c ++ lrs b)) in
    let t : T (clash p.r p.reg p.c || rest) = right-at p.r p.reg p.c (p.adjust % 4) b f w.r w.reg w.c (omega arith) h in
    same-eq _ _ (subst (λ x. T (x || rest)) n t)
