-- Laws of numbers as text.
-- Assumes nothing.
use Rattle.std.specs.Prelude.{if◌then◌else◌}
use Prim.Native.Nat.{ℕ, zero, suc, ◌+◌, ◌-◌, ◌*◌, ◌/◌, ◌%◌, ◌^◌, ◌≤◌, ◌<◌}
use mathlib.Core.Path.{◌≡◌, refl, sym, ap, ap₂, ◌∙◌}
use mathlib.Core.Bool.{Bool, true, false}
use mathlib.Core.List.{List, [], ◌∷◌, ◌++◌, append_assoc, append-nil}
use lib.ListN.{length}
use lib.Dec.{ltb}
use lib.Pow.{shr-shr}
use borrow.Author.Tests.{lt-ltb, le-ltb, ltb-false}
use native.Mathlib.Nat.{pow-suc}
use native.Mathlib.Numerals.{sub-one}
use native.Mathlib.Omega.{arith}
use Rattle.text.specs.Text.{digit, digits, decimal_length, decimal, hex8, numbered}

-- what follows the digits
pub digits_append : (b n v : ℕ) (rest : List ℕ) → digits b n v rest ≡ digits b n v [] ++ rest
unfolding digits
digits_append b zero v rest = refl
digits_append b (suc n) v rest =
    digits_append b n (v / b) (digit (v % b) ∷ rest)
    ∙ sym (append_assoc (digits b n (v / b) []) (digit (v % b) ∷ []) rest)
    ∙ sym (ap (λ l. l ++ rest) (digits_append b n (v / b) (digit (v % b) ∷ [])))

-- all digits but the last, and the last
pub digits_last : (b n v : ℕ) (d : ℕ) → 0 < n → d ≡ digit (v % b) → digits b n v [] ≡ digits b (n - 1) (v / b) [] ++ (d ∷ [])
unfolding digits
digits_last b zero v d h e = absurd (omega arith)
digits_last b (suc n) v d h e = rw (sub-one, e) (digits_append b n (v / b) (digit (v % b) ∷ []))

-- one hex digit more, of a value whose other digits stand above i places
pub hex-more :
    (n i v d : ℕ) → 0 < i → i ≤ n → d ≡ digit (v / 2 ^ (4 * (i - 1)) % 16)
    → digits 16 (n - i) (v / 2 ^ (4 * i)) [] ++ (d ∷ []) ≡ digits 16 (n - (i - 1)) (v / 2 ^ (4 * (i - 1))) []
hex-more n i v d p q e =
    let w : ℕ = v / 2 ^ (4 * (i - 1)) in
    let k : 4 * (i - 1) + 4 ≡ 4 * i = omega arith in
    let u : w / 16 ≡ v / 2 ^ (4 * i) = shr-shr v (4 * (i - 1)) 4 ∙ ap (λ x. v / 2 ^ x) k in
    let m : n - (i - 1) - 1 ≡ n - i = omega arith in
    sym (digits_last 16 (n - (i - 1)) w d (omega arith) e ∙ ap₂ (λ a b. digits 16 a b [] ++ (d ∷ [])) m u)

pub digits-length : (b n v : ℕ) (rest : List ℕ) → length (digits b n v rest) ≡ n + length rest
unfolding digits
digits-length b zero v rest = omega arith
digits-length b (suc n) v rest = let e = digits-length b n (v / b) (digit (v % b) ∷ rest) in omega arith

-- how many digits: none left to look at, one, and one more than its tenth has
pub decimal-none : (n v : ℕ) → n ≡ 0 → 1 ≡ decimal_length n v
unfolding decimal_length
decimal-none n v e = rw e refl

pub decimal-one : (n v : ℕ) → v < 10 → 1 ≡ decimal_length n v
unfolding decimal_length
decimal-one zero v h = refl
decimal-one (suc n) v h = rw (lt-ltb v 10 h) refl

pub decimal-more : (n v : ℕ) {r : ℕ} → 0 < n → 10 ≤ v → r ≡ decimal_length (n - 1) (v / 10) → 1 + r ≡ decimal_length n v
unfolding decimal_length
decimal-more zero v p h e = absurd (omega arith)
decimal-more (suc n) v {r} p h e = rw (le-ltb v 10 h) (let q : r ≡ decimal_length n (v / 10) = rw sub-one at e in omega arith)

pub decimal-two : (v : ℕ) → 10 ≤ v → v < 100 → 2 ≡ decimal_length 20 v
decimal-two v p h = decimal-more 20 v (omega arith) p (decimal-one 19 (v / 10) (omega arith))

pub decimal-three : (v : ℕ) → 100 ≤ v → v < 1000 → 3 ≡ decimal_length 20 v
decimal-three v p h =
    decimal-more 20 v (omega arith) (omega arith)
    (decimal-more 19 (v / 10) (omega arith) (omega arith) (decimal-one 18 (v / 10 / 10) (omega arith)))

-- a decimal number has at most 21 digits, and at most k + 1 where it is below 10 ^ (k + 1)
limit : (n v : ℕ) → decimal_length n v ≤ suc n
unfolding decimal_length
limit zero v = omega arith
limit (suc n) v = go (ltb v 10) (limit n (v / 10))
  where
    go : (t : Bool) → decimal_length n (v / 10) ≤ suc n → (if t then 1 else suc (decimal_length n (v / 10))) ≤ suc (suc n)
    go true h = omega arith
    go false h = omega arith

small : (n k v : ℕ) → v < 10 ^ suc k → decimal_length n v ≤ suc k
unfolding decimal_length
small zero k v h = omega arith
small (suc n) zero v h = go (ltb v 10) refl
  where
    go : (t : Bool) → ltb v 10 ≡ t → (if t then 1 else suc (decimal_length n (v / 10))) ≤ 1
    go true e = omega arith
    go false e = absurd (omega (arith, ltb-false v 10 e))
small (suc n) (suc k) v h = go (ltb v 10) (small n k (v / 10) (omega (arith, pow-suc 10 (suc k))))
  where
    go : (t : Bool) → decimal_length n (v / 10) ≤ suc k → (if t then 1 else suc (decimal_length n (v / 10))) ≤ suc (suc k)
    go true i = omega arith
    go false i = omega arith

pub decimal-limit : (v : ℕ) → length (decimal v) ≤ 21
decimal-limit v = omega (arith, digits-length 10 (decimal_length 20 v) v [], limit 20 v)

pub decimal-small : (v : ℕ) → v < 1000 → length (decimal v) ≤ 3
decimal-small v h = omega (arith, digits-length 10 (decimal_length 20 v) v [], small 20 2 v h)

pub hex8-length : (v : ℕ) → length (hex8 v) ≡ 8
hex8-length v = omega (arith, digits-length 16 8 v [])

-- all texts but the last, and the last
pub numbered-last : (f : ℕ → List ℕ) (k n : ℕ) → numbered f k (suc n) ≡ numbered f k n ++ f (k + n)
unfolding numbered
numbered-last f k zero = let e : k ≡ k + 0 = omega arith in append-nil (f k) ∙ ap f e
numbered-last f k (suc n) =
    let e : k + 1 + n ≡ k + suc n = omega arith in
    ap (λ l. f k ++ l) (numbered-last f (k + 1) n ∙ ap (λ j. numbered f (k + 1) n ++ f j) e)
    ∙ sym (append_assoc (f k) (numbered f (k + 1) n) (f (k + suc n)))
