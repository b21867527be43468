-- No number is in two rows of 16 bits, and none in two of 32 bits but for a push of one register, which is a store of it, and a pop of one,
-- which is a load: for these alone it matters which row comes first.
-- Assumes nothing.
use Rattle.std.specs.Prelude.{if◌then◌else◌}
use Prim.Native.Nat.{ℕ, ◌+◌, ◌*◌, ◌/◌, ◌%◌, ◌<◌, ◌≤◌, min}
use mathlib.Core.Path.{◌≡◌, refl, sym, ap, ap₂, ◌∙◌}
use mathlib.Core.Bool.{Bool, true, false, ◌&&◌, ◌||◌, not}
use mathlib.Core.List.{List, [], ◌∷◌}
use lib.Arith.{bin_ind, digits_div, digits_mod}
use lib.Bits.{bit_and, and_step}
use lib.Dec.{T, eqb}
use native.Mathlib.Omega.{arith}
use borrow.Author.Tests.{eqb-true, eq-eqb}
use Rattle.words.proofs.Tests.{T-both}
use Rattle.thumb.specs.Rows.{Row, rows16, rows_more, rows32, is_for}

-- two rows whose values differ at a bit that both masks have
abbrev pub apart : Row → Row → Bool
apart r s = not (eqb (bit_and r.value s.mask) (bit_and s.value r.mask))

-- a test of a row and each behind it, and of each two rows
abbrev pub beside : (Row → Row → Bool) → Row → List Row → Bool
beside p r [] = true
beside p r (s ∷ ss) = p r s && beside p r ss

abbrev pub each : (Row → Row → Bool) → List Row → Bool
each p [] = true
each p (r ∷ rs) = beside p r rs && each p rs

-- PUSH T3 and STR T4, POP T3 and LDR T4
abbrev nested : Row → Row → Bool
nested r s = eqb r.value 0xF84D0D04 && eqb s.value 0xF84D0D00 || eqb r.value 0xF85D0B04 && eqb s.value 0xF85D0B00

apart-16 : T (each apart rows16)
unfolding rows16
apart-16 = tt

apart-32 : T (each (λ r s. apart r s || nested r s) rows32)
unfolding rows32 rows_more
apart-32 = tt

-- a digit of three numbers
digit : (n a b : ℕ) → bit_and (bit_and n a) b ≡ bit_and (bit_and (n / 2) (a / 2)) (b / 2) * 2 + min (min (n % 2) (a % 2)) (b % 2)
digit n a b =
    let l : min (n % 2) (a % 2) < 2 = omega arith in
    let h = ap (λ x. x / 2) (and_step n a) ∙ digits_div (bit_and (n / 2) (a / 2)) l in
    let o = ap (λ x. x % 2) (and_step n a) ∙ digits_mod (bit_and (n / 2) (a / 2)) l in
    and_step (bit_and n a) b ∙ ap₂ (λ x y. bit_and x (b / 2) * 2 + min y (b % 2)) h o

swap : (n a b : ℕ) → bit_and (bit_and n a) b ≡ bit_and (bit_and n b) a
swap n =
    bin_ind (λ (n : ℕ). (a b : ℕ) → bit_and (bit_and n a) b ≡ bit_and (bit_and n b) a) (λ a b. refl)
    (λ n ih a b.
    let m : min (min (n % 2) (a % 2)) (b % 2) ≡ min (min (n % 2) (b % 2)) (a % 2) = omega arith in
    digit n a b ∙ ap₂ (λ x y. x * 2 + y) (ih (a / 2) (b / 2)) m ∙ sym (digit n b a))
    n

-- a number in two rows has the bits of both values where both masks have ones
pub not-in-both : (r s : Row) (w : ℕ) → T (apart r s) → is_for r w ≡ true → is_for s w ≡ true → ⊥
not-in-both r s w t f g =
    let a = eqb-true (bit_and w r.mask) r.value f in
    let b = eqb-true (bit_and w s.mask) s.value g in
    let e = ap (λ x. bit_and x s.mask) (sym a) ∙ swap w r.mask s.mask ∙ ap (λ x. bit_and x r.mask) b in
    rw (eq-eqb _ _ e) at t

-- how many rows are for a number
abbrev pub rows_for : List Row → ℕ → ℕ
rows_for [] w = 0
rows_for (r ∷ rs) w = (if is_for r w then 1 else 0) + rows_for rs w

none_beside : (r : Row) (rs : List Row) (w : ℕ) → T (beside apart r rs) → is_for r w ≡ true → rows_for rs w ≡ 0
none_beside r [] w t f = refl
none_beside r (s ∷ ss) w t f =
    let p = T-both (apart r s) (beside apart r ss) t in
    go (is_for s w) refl p.0 (none_beside r ss w p.1 f)
  where
    go : (b : Bool) → is_for s w ≡ b → T (apart r s) → rows_for ss w ≡ 0 → (if b then 1 else 0) + rows_for ss w ≡ 0
    go true e a n = absurd (not-in-both r s w a f e)
    go false e a n = omega arith

-- where each two are apart, there is one at most
pub one-row : (rs : List Row) (w : ℕ) → T (each apart rs) → rows_for rs w ≤ 1
one-row [] w t = omega arith
one-row (r ∷ rs) w t =
    let p = T-both (beside apart r rs) (each apart rs) t in
    go (is_for r w) refl p.0 (one-row rs w p.1)
  where
    go : (b : Bool) → is_for r w ≡ b → T (beside apart r rs) → rows_for rs w ≤ 1 → (if b then 1 else 0) + rows_for rs w ≤ 1
    go true e a n = omega (arith, none_beside r rs w a e)
    go false e a n = omega arith

one-row-16 : (h : ℕ) → rows_for rows16 h ≤ 1
one-row-16 h = one-row rows16 h apart-16
