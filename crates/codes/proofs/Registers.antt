-- Lists of registers: how far a range reaches, LR by a bit of a code, and a list taken apart, into LR and the others.
-- Assumes nothing.
use Rattle.std.specs.Prelude.{if◌then◌else◌}
use Prim.Native.Nat.{ℕ, ◌+◌, ◌^◌, ◌≤◌, ◌<◌}
use mathlib.Core.Path.{◌≡◌, refl, sym, ap, ◌∙◌}
use mathlib.Core.Bool.{Bool, true, false}
use lib.Dec.{leb, eqb}
use lib.Pow.{pow_mono, pow_pos}
use native.Mathlib.Omega.{arith}
use borrow.Author.Tests.{le-leb, eqb-true, eqb-false, ne_eqb}
use Rattle.words.specs.Bits.{bits, bit}
use Rattle.words.proofs.Powers.{below}
use Rattle.codes.specs.Table.{range, from_r4, lr_if}

module _ (a b : ℕ) where
  -- r0 to r12 are thirteen bits
  pub range_small : b ≤ 12 → range a b < 8192
  range_small h =
      let l : b + 1 ≤ 13 = omega arith in
      let m : 2 ^ (b + 1) ≤ 2 ^ 13 = pow_mono l in
      let n : 1 ≤ 2 ^ a = pow_pos a in omega arith

  -- no register from ra on is below it
  pub range_none : b < a → 0 ≡ (if leb b 12 then range a b else 0)
  range_none h = go (leb b 12)
    where
      go : (t : Bool) → 0 ≡ (if t then range a b else 0)
      go true = let l : b + 1 ≤ a = omega arith in let m : 2 ^ (b + 1) ≤ 2 ^ a = pow_mono l in omega arith
      go false = refl

module _ (x : ℕ) (h : 4 ≤ x) (k : x ≤ 11) where
  pub from-r4 : range 4 x ≡ from_r4 x
  from-r4 = rw (le-leb 4 x h, le-leb x 11 k) refl

  -- r4 to r11 are twelve bits
  pub range-r4 : range 4 x < 4096
  range-r4 = let l : x + 1 ≤ 12 = omega arith in let m : 2 ^ (x + 1) ≤ 2 ^ 12 = pow_mono l in omega arith

-- a bit as a test and as a number
pub test-number : (b : ℕ) → b < 2 → (if eqb b 1 then 1 else 0) ≡ b
test-number b h = go (eqb b 1) refl
  where
    go : (t : Bool) → eqb b 1 ≡ t → (if t then 1 else 0) ≡ b
    go true e = sym (eqb-true b 1 e)
    go false e = omega (arith, eqb-false b 1 e)

pub bit-number : (k w : ℕ) → (if bit k w then 1 else 0) ≡ bits k 1 w
bit-number k w = test-number (bits k 1 w) (below w k 1)

-- a list without LR, and one that LR is added to, taken apart
module _ (l : ℕ) (h : l < 8192) where
  pub bare-others : bits 0 13 l ≡ l
  bare-others = omega arith

  pub bare-lr : bits 14 1 l ≡ 0
  bare-lr = omega arith

  pub joined-others : (b : ℕ) → bits 0 13 (l + lr_if b) ≡ l
  joined-others b = omega arith

  joined-lr : (b : ℕ) → b < 2 → bits 14 1 (l + lr_if b) ≡ b
  joined-lr b k = omega arith

-- a list of r0-r12 and LR: of 16 bits, those of SP and PC clear
abbrev pub RegisterList : ℕ → Type 0
RegisterList l = l ≡ bits 0 13 l + lr_if (bits 14 1 l)

-- LR's bit is the one that a list is made with
module _ (list b : ℕ) (made : list ≡ bits 0 13 list + lr_if b) (k : b < 2) where
  pub made-lr : bits 14 1 list ≡ b
  made-lr = ap (bits 14 1) made ∙ joined-lr (bits 0 13 list) (below list 0 13) b k

  pub made_list : RegisterList list
  made_list = made ∙ ap (λ i. bits 0 13 list + lr_if i) (sym made-lr)

-- a list to which LR is added by a bit of a code
pub joined-list : (l : ℕ) → l < 8192 → (k v : ℕ) → RegisterList (l + lr_if (bits k 1 v))
joined-list l h k v =
    let b : ℕ = bits k 1 v in
    made_list (l + lr_if b) b (ap (λ i. i + lr_if b) (sym (joined-others l h b))) (below v k 1)

module _ (l : ℕ) (h : RegisterList l) where
  pub list-small : l < 2 ^ 15
  list-small = omega (arith, below l 0 13, below l 14 1)

  pub list-no-sp : bit 13 l ≡ false
  list-no-sp = ap (bit 13) h ∙ no-13 (bits 0 13 l) (bits 14 1 l) (below l 0 13)
    where
      no-13 : (x y : ℕ) → x < 2 ^ 13 → bit 13 (x + lr_if y) ≡ false
      no-13 x y k = ne_eqb (bits 13 1 (x + lr_if y)) 1 (λ (q : bits 13 1 (x + lr_if y) ≡ 1). omega arith)
