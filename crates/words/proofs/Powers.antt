-- Powers of two: how far a field of a word can reach.
-- Assumes nothing.
use Prim.Native.Nat.{ℕ, ◌*◌, ◌/◌, ◌%◌, ◌^◌, ◌≤◌, ◌<◌}
use mathlib.Core.Path.{◌≡◌, sym, ap, ◌∙◌}
use lib.Dec.{lit<}
use native.Mathlib.Omega.{arith}
use native.Mathlib.Nat.{pow-le-pow_right, mod-eq_of_lt, mod-lt, div-eq_of_lt, div-le_self, zero-mod}
use Rattle.words.specs.Bits.{bits}

pub some : (n : ℕ) → 0 < 2 ^ n
some n = let z : 0 ≤ n = omega arith in let h : 2 ^ 0 ≤ 2 ^ n = pow-le-pow_right (lit< tt) z in omega arith

-- one shifted by less than 32 stays below 2^32
pub shifted : (n : ℕ) → n < 32 → 1 * 2 ^ n % 4294967296 ≡ 2 ^ n
shifted n h =
    let m : n ≤ 31 = omega arith in
    let u : 2 ^ n ≤ 2 ^ 31 = pow-le-pow_right (lit< tt) m in
    let l : 2 ^ n < 4294967296 = omega arith in
    let o : 1 * 2 ^ n ≡ 2 ^ n = omega arith in
    ap (λ x. x % 4294967296) o ∙ mod-eq_of_lt l

module _ (w low width : ℕ) where
  pub below : bits low width w < 2 ^ width
  below = mod-lt (w / 2 ^ low) (some width)

  -- no bit of a word stands above the 32nd, and so many bits are all there are
  module _ (h : w < 4294967296) where
    pub none_above : 32 ≤ low → 0 ≡ bits low width w
    none_above l =
        let u : 2 ^ 32 ≤ 2 ^ low = pow-le-pow_right (lit< tt) l in
        let s : w < 2 ^ low = omega arith in
        sym (ap (λ x. x % 2 ^ width) (div-eq_of_lt s) ∙ zero-mod (2 ^ width))

    pub all_of : 32 ≤ width → w / 2 ^ low ≡ bits low width w
    all_of l =
        let u : 2 ^ 32 ≤ 2 ^ width = pow-le-pow_right (lit< tt) l in
        let s : w / 2 ^ low < 2 ^ width = omega (arith, div-le_self w (2 ^ low)) in
        sym (mod-eq_of_lt s)
