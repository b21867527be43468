-- The regions of a table, and what 16 asks of them, one region after another.
-- Assumes nothing.
use Prim.Native.Nat.{ℕ, zero, suc, ◌+◌, ◌-◌, ◌≤◌, ◌<◌}
use mathlib.Core.Path.{◌≡◌, refl, sym, ap, ◌∙◌}
use mathlib.Core.Bool.{Bool, true, false, not, ◌&&◌}
use mathlib.Core.List.{List, ◌∷◌}
use lib.ListN.{length}
use native.Mathlib.Omega.{arith}
use Rattle.regions.specs.declared.Region.{Region}
use Rattle.regions.specs.Region.{region_in, regions_from, upright, cross, clear, sound}

pub rows-length : (s : List ℕ) (f n k : ℕ) → length (regions_from s f k n) ≡ n
unfolding regions_from
rows-length s f zero k = refl
rows-length s f (suc n) k = ap suc (rows-length s f n (k + 1))

-- no region is left, or one and those behind it
pub rows-done : (s : List ℕ) (f k n : ℕ) → n ≤ k → regions_from s f k (n - k) ≡ regions_from s f 0 0
unfolding regions_from
rows-done s f k n h = let e : n - k ≡ 0 = omega arith in rw e refl

pub rows_next : (s : List ℕ) (f k n : ℕ) → k < n → regions_from s f k (n - k) ≡ region_in s f k ∷ regions_from s f (k + 1) (n - (k + 1))
unfolding regions_from
rows_next s f k n h = let e : n - k ≡ suc (n - (k + 1)) = omega arith in rw e refl

pub clear-done : (r : Region) (s : List ℕ) (f k n : ℕ) → n ≤ k → clear r (regions_from s f k (n - k)) ≡ true
unfolding clear regions_from
clear-done r s f k n h = rw (rows-done s f k n h) refl

pub sound-done : (s : List ℕ) (f k n : ℕ) → n ≤ k → sound (regions_from s f k (n - k)) ≡ true
unfolding sound regions_from
sound-done s f k n h = rw (rows-done s f k n h) refl

-- the first of a list, by its tests
clear-cons : (r q : Region) (rs : List Region) → clear r (q ∷ rs) ≡ (not (cross r q) && clear r rs)
unfolding clear
clear-cons r q rs = refl

sound-cons : (r : Region) (rs : List Region) → sound (r ∷ rs) ≡ (upright r && clear r rs && sound rs)
unfolding sound
sound-cons r rs = refl

module _ (r q : Region) (s : List ℕ) (f k n : ℕ) (h : k < n) (e : q ≡ region_in s f k) where
  clear_next : clear r (regions_from s f k (n - k)) ≡ (not (cross r q) && clear r (regions_from s f (k + 1) (n - (k + 1))))
  clear_next =
      ap (clear r) (rows_next s f k n h ∙ ap (λ x. x ∷ regions_from s f (k + 1) (n - (k + 1))) (sym e))
      ∙ clear-cons r q (regions_from s f (k + 1) (n - (k + 1)))

  pub clear-stops : cross r q ≡ true → clear r (regions_from s f k (n - k)) ≡ false
  clear-stops t = clear_next ∙ rw t refl

  pub clear-goes-on : cross r q ≡ false → clear r (regions_from s f k (n - k)) ≡ clear r (regions_from s f (k + 1) (n - (k + 1)))
  clear-goes-on t = clear_next ∙ rw t refl

module _ (r : Region) (s : List ℕ) (f k n : ℕ) (h : k < n) (e : r ≡ region_in s f k) where
  sound-next :
      sound (regions_from s f k (n - k))
      ≡ (upright r && clear r (regions_from s f (k + 1) (n - (k + 1))) && sound (regions_from s f (k + 1) (n - (k + 1))))
  sound-next =
      ap sound (rows_next s f k n h ∙ ap (λ x. x ∷ regions_from s f (k + 1) (n - (k + 1))) (sym e))
      ∙ sound-cons r (regions_from s f (k + 1) (n - (k + 1)))

  pub sound-fallen : upright r ≡ false → sound (regions_from s f k (n - k)) ≡ false
  sound-fallen t = sound-next ∙ rw t refl

  -- by whether it crosses one behind it
  module _ (t : upright r ≡ true) (b : Bool) (c : b ≡ clear r (regions_from s f (k + 1) (n - (k + 1)))) where
    pub sound-crossed : b ≡ false → sound (regions_from s f k (n - k)) ≡ false
    sound-crossed u = sound-next ∙ rw (t, sym c ∙ u) refl

    pub sound-goes-on : b ≡ true → sound (regions_from s f k (n - k)) ≡ sound (regions_from s f (k + 1) (n - (k + 1)))
    sound-goes-on u = sound-next ∙ rw (t, sym c ∙ u) refl
