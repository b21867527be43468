-- Stacks that agree outside a written part: their words there are the same, and one part written and then another is one part written.
-- Assumes nothing.
use Prim.Native.Nat.{ℕ, ◌+◌, ◌-◌, ◌*◌, ◌^◌, ◌≤◌, ◌<◌}
use mathlib.Core.Path.{◌≡◌, refl, ap, ap₂, ◌∙◌}
use mathlib.Core.Logic.{inl, inr}
use lib.ListN.{get_or}
use native.Mathlib.Omega.{arith}
use Rattle.lent.specs.Lent.{Lent, word_at}
use Rattle.forward.specs.State.{Outside}

-- a word is that of its four bytes
word-agree :
    (k k' : Lent) (a : ℕ) → k'.base ≡ k.base → ((i : ℕ) → a - k.base ≤ i → i < a - k.base + 4 → get_or k'.bytes i 0 ≡ get_or k.bytes i 0)
    → word_at k' a ≡ word_at k a
word-agree k k' a b h =
    let i : ℕ = a - k.base in
    let j : ℕ = a - k'.base in
    ap₂ (λ v w. v + 2 ^ 16 * w)
    (ap₂ (λ v w. v + 2 ^ 8 * w) (byte i j (omega arith) (omega arith) (omega arith)) (byte (i + 1) (j + 1) (omega arith) (omega arith) (omega arith)))
    (ap₂ (λ v w. v + 2 ^ 8 * w) (byte (i + 2) (j + 2) (omega arith) (omega arith) (omega arith)) (byte (i + 2 + 1) (j + 2 + 1) (omega arith) (omega arith) (omega arith)))
  where
    byte : (i j : ℕ) → j ≡ i → a - k.base ≤ i → i < a - k.base + 4 → get_or k'.bytes j 0 ≡ get_or k.bytes i 0
    byte i j e p q = ap (λ n. get_or k'.bytes n 0) e ∙ h i p q

pub outside_above : {lo hi : ℕ} {k k' : Lent} → Outside lo hi k k' → (a : ℕ) → hi ≤ a → word_at k' a ≡ word_at k a
outside_above {lo} {hi} {k} {k'} o a h = word-agree k k' a o.base (λ i p q. o.same i (inr (omega arith)))

pub outside_below : {lo hi : ℕ} {k k' : Lent} → Outside lo hi k k' → (a : ℕ) → k.base ≤ a → a + 4 ≤ lo → word_at k' a ≡ word_at k a
outside_below {lo} {hi} {k} {k'} o a b h = word-agree k k' a o.base (λ i p q. o.same i (inl (omega arith)))

pub outside-same : (lo hi : ℕ) (k : Lent) → Outside lo hi k k
outside-same lo hi k = record { base = refl; long = refl; same = λ i h. refl }

-- one part written and then another
pub outside-then : {a b c d lo hi : ℕ} {k l m : Lent} → Outside a b k l → Outside c d l m → lo ≤ a → lo ≤ c → b ≤ hi → d ≤ hi → Outside lo hi k m
outside-then o p h₁ h₂ h₃ h₄ = record {
  base = p.base ∙ o.base;
  long = p.long ∙ o.long;
  same = λ i h.
      p.same i (elim h [ inl l ↦ inl (omega (arith, o.base)) | inr l ↦ inr (omega (arith, o.base)) ])
      ∙ o.same i (elim h [ inl l ↦ inl (omega arith) | inr l ↦ inr (omega arith) ]);
}

pub outside-more : {a b lo hi : ℕ} {k l : Lent} → Outside a b k l → lo ≤ a → b ≤ hi → Outside lo hi k l
outside-more o h₁ h₂ =
    record { base = o.base; long = o.long; same = λ i h. o.same i (elim h [ inl l ↦ inl (omega arith) | inr l ↦ inr (omega arith) ]) }
