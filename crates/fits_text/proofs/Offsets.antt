-- Eight hex digits are those of a number's last 32 bits: a digit depends on no higher one.
-- Assumes nothing.
use Prim.Native.Nat.{ℕ, zero, suc, ◌+◌, ◌*◌, ◌/◌, ◌%◌, ◌^◌}
use mathlib.Core.Path.{◌≡◌, refl, ap, ap₂, ◌∙◌}
use mathlib.Core.List.{List, [], ◌∷◌}
use lib.Arith.{digits_div, digits_mod, mod-mul}
use native.Mathlib.Nat.{pow-suc, one-le-pow}
use native.Mathlib.Omega.{arith}
use Rattle.text.specs.Text.{digit, digits, hex8}

-- the last n digits, of what is left by the n-th power
digits_low : (n v : ℕ) (rest : List ℕ) → digits 16 n (v % 16 ^ n) rest ≡ digits 16 n v rest
unfolding digits
digits_low zero v rest = refl
digits_low (suc n) v rest =
    let m : v % 16 ^ suc n ≡ v / 16 % 16 ^ n * 16 + v % 16 = ap (λ x. v % x) (pow-suc 16 n) ∙ mod-mul v (one-le-pow n 16 (omega arith)) (omega arith) in
    let high : v % 16 ^ suc n / 16 ≡ v / 16 % 16 ^ n = ap (λ x. x / 16) m ∙ digits_div (v / 16 % 16 ^ n) (omega arith) in
    let last : v % 16 ^ suc n % 16 ≡ v % 16 = ap (λ x. x % 16) m ∙ digits_mod (v / 16 % 16 ^ n) (omega arith) in
    ap₂ (λ a d. digits 16 n a (digit d ∷ rest)) high last ∙ digits_low n (v / 16) (digit (v % 16) ∷ rest)

pub hex8-low : (v : ℕ) → hex8 (v % 4294967296) ≡ hex8 v
hex8-low v = digits_low 8 v []
