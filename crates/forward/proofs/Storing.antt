-- Words and registers stored in a stack, byte by byte: what is stored is held, and nothing else is written.
-- Assumes nothing.
use Rattle.std.specs.Prelude.{if◌then◌else◌}
use Prim.Native.Nat.{ℕ, ◌+◌, ◌-◌, ◌*◌, ◌/◌, ◌%◌, ◌^◌, ◌≤◌, ◌<◌}
use mathlib.Core.Path.{◌≡◌, refl, ap, ap₂, ◌∙◌}
use mathlib.Core.List.{List, [], ◌∷◌}
use mathlib.Core.Bool.{Bool, true, false}
use mathlib.Core.Logic.{◌≢◌, ◌⊎◌, inl, inr}
use lib.Dec.{ltb}
use lib.ListN.{length, get_or, set, length-set}
use lib.Seq.{get_or-set_same, get_or-set_other}
use native.Mathlib.Omega.{arith}
use Rattle.lent.specs.Little.{word32}
use Rattle.lent.specs.Lent.{Lent, end, word_at}
use Rattle.machine.specs.declared.Regs.{Regs}
use Rattle.forward.specs.Registers.{value, width, held}
use Rattle.forward.specs.Saving.{bytes}
use Rattle.forward.specs.State.{Outside}
use Rattle.forward.specs.Prologue.{Stored}
use Rattle.forward.proofs.Memory.{outside_below, outside-same, outside-then}

-- the four bytes of a word, the lowest first
abbrev pub put1 : List ℕ → ℕ → ℕ → List ℕ
put1 s i w = set s i (w % 256)

abbrev pub put2 : List ℕ → ℕ → ℕ → List ℕ
put2 s i w = set (put1 s i w) (i + 1) (w / 256 % 256)

abbrev pub put3 : List ℕ → ℕ → ℕ → List ℕ
put3 s i w = set (put2 s i w) (i + 2) (w / 256 / 256 % 256)

abbrev put : List ℕ → ℕ → ℕ → List ℕ
put s i w = set (put3 s i w) (i + 3) (w / 256 / 256 / 256)

abbrev pub store : Lent → (at word : ℕ) → Lent
store k a w = record { base = k.base; bytes = put k.bytes (a - k.base) w }

abbrev pub store_reg : Lent → (at x v : ℕ) → Lent
store_reg k a x v = if ltb x 16 then store k a v else store (store k a (v % 2 ^ 32)) (a + 4) (v / 2 ^ 32)

-- registers, the first at the lowest address
abbrev pub store_all : Lent → (at : ℕ) → List ℕ → Regs → Lent
store_all k a [] g = k
store_all k a (x ∷ xs) g = store_all (store_reg k a x (value g x)) (a + width x) xs g

length-put : (s : List ℕ) (i w : ℕ) → length (put s i w) ≡ length s
length-put s i w = simp length-set

put_other : (s : List ℕ) (i w j : ℕ) → (j < i) ⊎ (i + 4 ≤ j) → get_or (put s i w) j 0 ≡ get_or s j 0
put_other s i w j h =
    get_or-set_other (put3 s i w) (i + 3) j (w / 256 / 256 / 256) 0 (apart 3 (omega arith))
    ∙ get_or-set_other (put2 s i w) (i + 2) j (w / 256 / 256 % 256) 0 (apart 2 (omega arith))
    ∙ get_or-set_other (put1 s i w) (i + 1) j (w / 256 % 256) 0 (apart 1 (omega arith))
    ∙ get_or-set_other s i j (w % 256) 0 (λ e. apart 0 (omega arith) (omega arith))
  where
    apart : (n : ℕ) → n < 4 → j ≢ i + n
    apart n l e = elim h [ inl a ↦ omega arith | inr a ↦ omega arith ]

module _ (s : List ℕ) (i w : ℕ) (fits : i + 4 ≤ length s) where
  byte-0 : get_or (put s i w) i 0 ≡ w % 256
  byte-0 =
      get_or-set_other (put3 s i w) (i + 3) i (w / 256 / 256 / 256) 0 (λ e. omega arith)
      ∙ get_or-set_other (put2 s i w) (i + 2) i (w / 256 / 256 % 256) 0 (λ e. omega arith)
      ∙ get_or-set_other (put1 s i w) (i + 1) i (w / 256 % 256) 0 (λ e. omega arith)
      ∙ get_or-set_same s i (w % 256) 0 (omega arith)

  byte-1 : get_or (put s i w) (i + 1) 0 ≡ w / 256 % 256
  byte-1 =
      get_or-set_other (put3 s i w) (i + 3) (i + 1) (w / 256 / 256 / 256) 0 (λ e. omega arith)
      ∙ get_or-set_other (put2 s i w) (i + 2) (i + 1) (w / 256 / 256 % 256) 0 (λ e. omega arith)
      ∙ get_or-set_same (put1 s i w) (i + 1) (w / 256 % 256) 0 (omega (arith, length-set s i (w % 256)))

  byte-2 : get_or (put s i w) (i + 2) 0 ≡ w / 256 / 256 % 256
  byte-2 =
      get_or-set_other (put3 s i w) (i + 3) (i + 2) (w / 256 / 256 / 256) 0 (λ e. omega arith)
      ∙ get_or-set_same (put2 s i w) (i + 2) (w / 256 / 256 % 256) 0 (omega (arith, length-set (put1 s i w) (i + 1) (w / 256 % 256), length-set s i (w % 256)))

  byte-3 : get_or (put s i w) (i + 3) 0 ≡ w / 256 / 256 / 256
  byte-3 =
      get_or-set_same (put3 s i w) (i + 3) (w / 256 / 256 / 256) 0
      (omega (arith, length-set (put2 s i w) (i + 2) (w / 256 / 256 % 256), length-set (put1 s i w) (i + 1) (w / 256 % 256), length-set s i (w % 256)))

  word-put : word32 (put s i w) i ≡ w
  word-put =
      let last : get_or (put s i w) (i + 2 + 1) 0 ≡ w / 256 / 256 / 256 = ap (λ n. get_or (put s i w) n 0) (let z : i + 2 + 1 ≡ i + 3 = omega arith in z) ∙ byte-3 in
      omega (arith, byte-0, byte-1, byte-2, last)

-- ---- in a stack
pub store-outside : (k : Lent) (a w : ℕ) → k.base ≤ a → Outside a (a + 4) k (store k a w)
store-outside k a w b = record {
  base = refl;
  long = length-put k.bytes (a - k.base) w;
  same = λ i h. put_other k.bytes (a - k.base) w i (elim h [ inl l ↦ inl (omega arith) | inr l ↦ inr (omega arith) ]);
}

pub word-store : (k : Lent) (a w : ℕ) → k.base ≤ a → a + 4 ≤ end k → word_at (store k a w) a ≡ w
word-store k a w b h = word-put k.bytes (a - k.base) w (omega arith)

-- a register, in its one word or two
record StoredReg (k : Lent) (a x v : ℕ) : Type 0 where
  outside : Outside a (a + width x) k (store_reg k a x v)
  held : held (store_reg k a x v) a x ≡ v

stored-reg : (k : Lent) (a x v : ℕ) → k.base ≤ a → a + width x ≤ end k → StoredReg k a x v
stored-reg k a x v b h = record { outside = out (ltb x 16); held = is (ltb x 16) h }
  where
    out : (t : Bool) → Outside a (a + (if t then 4 else 8)) k (if t then store k a v else store (store k a (v % 2 ^ 32)) (a + 4) (v / 2 ^ 32))
    out true = store-outside k a v b
    out false =
        outside-then (store-outside k a (v % 2 ^ 32) b) (store-outside (store k a (v % 2 ^ 32)) (a + 4) (v / 2 ^ 32) (omega arith)) (omega arith) (omega arith) (omega arith) (omega arith)

    is :
        (t : Bool) → a + (if t then 4 else 8) ≤ end k
        → (if t
        then word_at (if t then store k a v else store (store k a (v % 2 ^ 32)) (a + 4) (v / 2 ^ 32)) a
        else word_at (if t then store k a v else store (store k a (v % 2 ^ 32)) (a + 4) (v / 2 ^ 32)) a + 2 ^ 32 * word_at (if t then store k a v else store (store k a (v % 2 ^ 32)) (a + 4) (v / 2 ^ 32)) (a + 4))
        ≡ v
    is true q = word-store k a v b q
    is false q =
        let k₁ : Lent = store k a (v % 2 ^ 32) in
        let o = store-outside k a (v % 2 ^ 32) b in
        let low : word_at (store k₁ (a + 4) (v / 2 ^ 32)) a ≡ v % 2 ^ 32 =
        outside_below (store-outside k₁ (a + 4) (v / 2 ^ 32) (omega arith)) a b (omega arith) ∙ word-store k a (v % 2 ^ 32) b (omega arith) in
        let high : word_at (store k₁ (a + 4) (v / 2 ^ 32)) (a + 4) ≡ v / 2 ^ 32 = word-store k₁ (a + 4) (v / 2 ^ 32) (omega arith) (omega (arith, o.long)) in
        omega (arith, low, high)

-- what is held below the written part stays
held_below : {lo hi : ℕ} {k k' : Lent} → Outside lo hi k k' → (a x : ℕ) → k.base ≤ a → a + width x ≤ lo → held k' a x ≡ held k a x
held_below {lo} {hi} {k} {k'} o a x b h = go (ltb x 16) h
  where
    go : (t : Bool) → a + (if t then 4 else 8) ≤ lo → (if t then word_at k' a else word_at k' a + 2 ^ 32 * word_at k' (a + 4)) ≡ (if t then word_at k a else word_at k a + 2 ^ 32 * word_at k (a + 4))
    go true q = outside_below o a b q
    go false q = ap₂ (λ v w. v + 2 ^ 32 * w) (outside_below o a b (omega arith)) (outside_below o (a + 4) (omega arith) (omega arith))

pub store-all-outside : (xs : List ℕ) (k : Lent) (a : ℕ) (g : Regs) → k.base ≤ a → a + bytes xs ≤ end k → Outside a (a + bytes xs) k (store_all k a xs g)
store-all-outside [] k a g b h = outside-same a (a + 0) k
store-all-outside (x ∷ xs) k a g b h =
    let r = stored-reg k a x (value g x) b (omega arith) in
    outside-then r.outside
    (store-all-outside xs (store_reg k a x (value g x)) (a + width x) g (omega (arith, r.outside.base)) (omega (arith, r.outside.base, r.outside.long)))
    (omega arith)
    (omega arith)
    (omega arith)
    (omega arith)

pub store-all-stored : (xs : List ℕ) (k : Lent) (a : ℕ) (g : Regs) → k.base ≤ a → a + bytes xs ≤ end k → Stored (store_all k a xs g) a xs g
store-all-stored [] k a g b h = tt
store-all-stored (x ∷ xs) k a g b h =
    let r = stored-reg k a x (value g x) b (omega arith) in
    let k₁ : Lent = store_reg k a x (value g x) in
    let b₁ : k₁.base ≤ a + width x = omega (arith, r.outside.base) in
    let h₁ : a + width x + bytes xs ≤ end k₁ = omega (arith, r.outside.base, r.outside.long) in
    (held_below (store-all-outside xs k₁ (a + width x) g b₁ h₁) a x (omega (arith, r.outside.base)) (omega arith) ∙ r.held, store-all-stored xs k₁ (a + width x) g b₁ h₁)
