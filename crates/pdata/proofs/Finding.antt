-- The order of a .pdata table, and why halving an ascending one finds the record that the definition finds.
-- Assumes nothing.
use Rattle.std.specs.Prelude.{Ok, Err, None, Some}
use Prim.Native.Nat.{ℕ, zero, suc, ◌+◌, ◌-◌, ◌*◌, ◌/◌, ◌%◌, ◌≤◌, ◌<◌}
use mathlib.Core.Path.{◌≡◌, refl, ap, ◌∙◌}
use mathlib.Core.Bool.{Bool, true, false, ◌&&◌}
use mathlib.Core.List.{List, map}
use lib.ListN.{length}
use lib.Dec.{ltb, eqb}
use native.Mathlib.Omega.{arith}
use borrow.Author.Tests.{ltb-true, lt-ltb, le-ltb, le-leb, lt-leb}
use Rattle.words.proofs.Tests.{both}
use Rattle.words.specs.Bits.{even}
use Rattle.lent.specs.Little.{word32}
use Rattle.words.specs.declared.Refusal.TheVariants.{UnfitInput, PcBelowBase, StartsNotAscending}
use Rattle.unwinding.specs.View.{ascending}
use Rattle.pdata.specs.Pdata.{entries_from, entries, entry_at, starts, last_up_to, find, find_rva}

abbrev pub start_at : List ℕ → ℕ → ℕ
start_at s i = even (word32 s (8 * i))

-- a word's start is at or below an address exactly if the word is at or below that address with bit 0 set
pub start-up-to : (w a : ℕ) → w ≤ even a + 1 → even w ≤ even a
start-up-to w a h = omega arith

pub start-above : (w a : ℕ) → even a + 1 < w → a < even w
start-above w a h = omega arith

-- the order of the records from number i on, of n
abbrev pub ascending_from : List ℕ → (i n : ℕ) → Bool
ascending_from s i n = ascending (map (λ e. e.start) (entries_from s i (n - i)))

pub ascending-all : (s : List ℕ) → ascending_from s 0 (length s / 8) ≡ ascending (starts s)
ascending-all s = let e : length s / 8 - 0 ≡ length s / 8 = omega arith in ap (λ n. ascending (map (λ e. e.start) (entries_from s 0 n))) e

-- one record, or none, is in order
pub ascending-last : (s : List ℕ) (i n : ℕ) → n ≤ i + 1 → ascending_from s i n ≡ true
unfolding entries_from
ascending-last s i n h = go (n - i) (omega arith)
  where
    go : (k : ℕ) → k ≤ 1 → ascending (map (λ e. e.start) (entries_from s i k)) ≡ true
    go zero q = refl
    go (suc zero) q = refl
    go (suc (suc k)) q = absurd (let z : suc (suc k) ≤ 1 = q in omega arith)

-- two are in order where their starts are and the rest is
pub ascending-next :
    (s : List ℕ) (i n : ℕ) → i + 1 < n → ascending_from s i n ≡ (ltb (start_at s i) (start_at s (i + 1)) && ascending_from s (i + 1) n)
unfolding entries_from
ascending-next s i n h =
    let e : n - i ≡ suc (suc (n - (i + 2))) = omega arith in
    let f : n - (i + 1) ≡ suc (n - (i + 2)) = omega arith in
    rw (e, f) refl

pub ascending-stops : (s : List ℕ) (i n : ℕ) → i + 1 < n → start_at s (i + 1) ≤ start_at s i → ascending_from s i n ≡ false
ascending-stops s i n h q = ascending-next s i n h ∙ rw (le-ltb (start_at s i) (start_at s (i + 1)) q) refl

pub ascending-goes-on :
    (s : List ℕ) (i n : ℕ) → i + 1 < n → start_at s i < start_at s (i + 1) → ascending_from s i n ≡ ascending_from s (i + 1) n
ascending-goes-on s i n h q = ascending-next s i n h ∙ rw (lt-ltb (start_at s i) (start_at s (i + 1)) q) refl

-- where the first of n records starts above an RVA, all do
above :
    (s : List ℕ) (a n i : ℕ) → ascending (map (λ e. e.start) (entries_from s i (suc n))) ≡ true → a < start_at s i
    → last_up_to (entries_from s i (suc n)) a ≡ None
unfolding entries_from last_up_to
above s a zero i up h = rw (lt-leb (start_at s i) a h) refl
above s a (suc n) i up h =
    let w = both (ltb (start_at s i) (start_at s (i + 1))) (ascending (map (λ e. e.start) (entries_from s (i + 1) (suc n)))) up in
    let further : a < start_at s (i + 1) = omega (arith, ltb-true (start_at s i) (start_at s (i + 1)) w.0) in
    rw (above s a n (i + 1) w.1 further, lt-leb (start_at s i) a h) refl

-- the last of the m + 1 first records that start at or below it is the one found
last :
    (s : List ℕ) (a m i n j : ℕ) → j ≡ i + m → m < n → ascending (map (λ e. e.start) (entries_from s i n)) ≡ true → start_at s j ≤ a
    → (m + 1 < n → a < start_at s (j + 1)) → last_up_to (entries_from s i n) a ≡ Some (entry_at s j)
unfolding entries_from last_up_to
last s a m i zero j e h up below more = absurd (let z : m < 0 = h in omega arith)
last s a zero i (suc n) j e h up below more = go n up more
  where
    same : i ≡ j
    same = omega arith

    go :
        (n : ℕ) → ascending (map (λ e. e.start) (entries_from s i (suc n))) ≡ true → (0 + 1 < suc n → a < start_at s (j + 1))
        → last_up_to (entries_from s i (suc n)) a ≡ Some (entry_at s j)
    go zero up more = rw (same, le-leb (start_at s j) a below) refl
    go (suc n) up more =
        let w = both (ltb (start_at s i) (start_at s (i + 1))) (ascending (map (λ e. e.start) (entries_from s (i + 1) (suc n)))) up in
        let further : a < start_at s (i + 1) = rw same (more (omega arith)) in
        rw (above s a n (i + 1) w.1 further, same, le-leb (start_at s j) a below) refl
last s a (suc m) i (suc zero) j e h up below more = absurd (let z : suc m < 1 = h in omega arith)
last s a (suc m) i (suc (suc n)) j e h up below more =
    let w = both (ltb (start_at s i) (start_at s (i + 1))) (ascending (map (λ e. e.start) (entries_from s (i + 1) (suc n)))) up in
    rw (last s a m (i + 1) (suc n) j (omega arith) (omega arith) w.1 below (λ q. more (omega arith))) refl

-- what halving ends with: nothing where the first record starts above the RVA
pub found_none :
    (s : List ℕ) (a : ℕ) → ascending (starts s) ≡ true → (0 < length s / 8 → a < start_at s 0) → last_up_to (entries s) a ≡ None
unfolding entries_from last_up_to
found_none s a up more = go (length s / 8) up more
  where
    go :
        (n : ℕ) → ascending (map (λ e. e.start) (entries_from s 0 n)) ≡ true → (0 < n → a < start_at s 0) → last_up_to (entries_from s 0 n) a ≡ None
    go zero up more = refl
    go (suc n) up more = above s a n 0 up (more (omega arith))

-- and else the record that starts at or below it and whose successor does not
pub found_some :
    (s : List ℕ) (a j : ℕ) → j < length s / 8 → ascending (starts s) ≡ true → start_at s j ≤ a
    → (j + 1 < length s / 8 → a < start_at s (j + 1)) → last_up_to (entries s) a ≡ Some (entry_at s j)
found_some s a j h up below more = last s a j 0 (length s / 8) j (omega arith) h up below more

-- finding, by what its tests say: 1, 2, 3, and then the record or none
module _ (image : ℕ) (s : List ℕ) (pc : ℕ) where
  pub find-unfit : eqb (length s % 8) 0 ≡ false → find image s pc ≡ Err UnfitInput
  unfolding find
  find-unfit h = rw h refl

  pub find-below : eqb (length s % 8) 0 ≡ true → even pc < image → find image s pc ≡ Err PcBelowBase
  unfolding find
  find-below h b = rw (h, lt-leb image (even pc) b) refl

  pub find-unsorted :
      eqb (length s % 8) 0 ≡ true → image ≤ even pc → ascending (starts s) ≡ false → find image s pc ≡ Err StartsNotAscending
  unfolding find find_rva
  find-unsorted h b up = rw (h, le-leb image (even pc) b, up) refl

  pub find-sorted :
      eqb (length s % 8) 0 ≡ true → image ≤ even pc → ascending (starts s) ≡ true
      → find image s pc ≡ Ok (last_up_to (entries s) (even pc - image))
  unfolding find find_rva
  find-sorted h b up = rw (h, le-leb image (even pc) b, up) refl

-- the same by an RVA
module _ (s : List ℕ) (a : ℕ) where
  pub rva-unfit : eqb (length s % 8) 0 ≡ false → find_rva s a ≡ Err UnfitInput
  unfolding find_rva
  rva-unfit h = rw h refl

  pub rva-unsorted : eqb (length s % 8) 0 ≡ true → ascending (starts s) ≡ false → find_rva s a ≡ Err StartsNotAscending
  unfolding find_rva
  rva-unsorted h up = rw (h, up) refl

  pub rva-sorted : eqb (length s % 8) 0 ≡ true → ascending (starts s) ≡ true → find_rva s a ≡ Ok (last_up_to (entries s) a)
  unfolding find_rva
  rva-sorted h up = rw (h, up) refl
