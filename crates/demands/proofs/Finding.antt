-- Finding meets its laws, since in an ascending table the last record that starts at or before the pc has the greatest such start; and a
-- reader that looks at the first record only breaks them.
-- Assumes nothing.
use Rattle.std.specs.Prelude.{if◌then◌else◌, Ok, Err, Option, None, Some}
use Prim.Native.Nat.{ℕ, zero, suc, ◌+◌, ◌-◌, ◌/◌, ◌%◌, ◌≤◌, ◌<◌}
use mathlib.Core.Path.{◌≡◌, refl, ap, subst}
use mathlib.Core.List.{List, map}
use mathlib.Core.Bool.{Bool, true, false}
use lib.ListN.{length}
use lib.Dec.{leb, ltb, eqb}
use native.Mathlib.Omega.{arith}
use borrow.Author.Tests.{leb-true, leb-false, ltb-true, ltb-false}
use Rattle.words.specs.Bits.{even}
use Rattle.words.specs.declared.Refusal.{Refusal}
use Rattle.words.specs.declared.Refusal.TheVariants.{UnfitInput, PcBelowBase, StartsNotAscending}
use Rattle.words.proofs.Tests.{both}
use Rattle.words.specs.Answer.{Res, ◌>>◌, need, maybe}
use Rattle.unwinding.specs.View.{ascending}
use Rattle.pdata.specs.Pdata.{entries_from, entries, entry_at, starts, last_up_to, find, find_rva}
use Rattle.pdata.specs.declared.Entry.{Entry}
use Rattle.pdata.proofs.Finding.{start_at}
use Rattle.listing.proofs.Opened.{opened}
use Rattle.demands.specs.Reader.{ours}
use Rattle.demands.specs.FindLaws.{Greatest, FindLaws}
use Rattle.demands.specs.Shams.{first-only}
use Rattle.demands.proofs.Examples as Example

abbrev Ascends : List ℕ → (i n : ℕ) → Type 0
Ascends s i n = ascending (map (λ e. e.start) (entries_from s i n)) ≡ true

-- what holds of a number and of the n after it holds of all n + 1
from : (P : ℕ → Type 0) (i n : ℕ) → P i → ((j : ℕ) → i + 1 ≤ j → j < i + 1 + n → P j) → (j : ℕ) → i ≤ j → j < i + suc n → P j
from P i n first rest j lo hi = go (ltb i j) refl
  where
    go : (t : Bool) → ltb i j ≡ t → P j
    go true q = rest j (omega (arith, ltb-true i j q)) (omega (arith, hi))
    go false q = let e : i ≡ j = omega (arith, lo, ltb-false i j q) in subst P e first

ascends-on : (s : List ℕ) (i n : ℕ) → Ascends s i (suc n) → Ascends s (i + 1) n
unfolding entries_from
ascends-on s i zero up = refl
ascends-on s i (suc n) up = (both (ltb (start_at s i) (start_at s (i + 1))) (ascending (map (λ e. e.start) (entries_from s (i + 1) (suc n)))) up).1

-- the first of n + 1 records has the least start
least : (s : List ℕ) (n i : ℕ) → Ascends s i (suc n) → (j : ℕ) → i ≤ j → j < i + suc n → start_at s i ≤ start_at s j
unfolding entries_from
least s zero i up = from (λ j. start_at s i ≤ start_at s j) i 0 (omega arith) (λ j lo hi. absurd (omega (arith, lo, hi)))
least s (suc n) i up =
    let w = both (ltb (start_at s i) (start_at s (i + 1))) (ascending (map (λ e. e.start) (entries_from s (i + 1) (suc n)))) up in
    from (λ j. start_at s i ≤ start_at s j) i (suc n) (omega arith)
    (λ j lo hi. omega (arith, ltb-true (start_at s i) (start_at s (i + 1)) w.0, least s n (i + 1) w.1 j lo hi))

-- what the last of n records from number i on that starts at or below an RVA is, or that there is none
record Best (s : List ℕ) (a i n : ℕ) (e : Entry) : Type 0 where
  low : i ≤ e.number
  high : e.number < i + n
  same : e ≡ entry_at s e.number
  below : e.start ≤ a
  between : (j : ℕ) → i ≤ j → j < i + n → start_at s j ≤ a → start_at s j ≤ e.start

abbrev Seen : List ℕ → (a i n : ℕ) → Option Entry → Type 0
Seen s a i n None = (j : ℕ) → i ≤ j → j < i + n → a < start_at s j
Seen s a i n (Some e) = Best s a i n e

seen : (s : List ℕ) (a n i : ℕ) → Ascends s i n → Seen s a i n (last_up_to (entries_from s i n) a)
unfolding entries_from last_up_to
seen s a zero i up = λ j lo hi. absurd (omega (arith, lo, hi))
seen s a (suc n) i up = more (last_up_to (entries_from s (i + 1) n) a) (seen s a n (i + 1) (ascends-on s i n up))
  where
    here : (t : Bool) → leb (start_at s i) a ≡ t → Seen s a (i + 1) n None → Seen s a i (suc n) (if t then Some (entry_at s i) else None)
    here true q none_after = record {
      low = omega arith;
      high = omega arith;
      same = refl;
      below = leb-true (start_at s i) a q;
      between =
          from (λ j. start_at s j ≤ a → start_at s j ≤ start_at s i) i n (λ h. omega arith) (λ j lo hi h. absurd (omega (arith, none_after j lo hi, h)));
    }
    here false q none_after = from (λ j. a < start_at s j) i n (leb-false (start_at s i) a q) none_after

    more : (o : Option Entry) → Seen s a (i + 1) n o → Seen s a i (suc n) (maybe o (if leb (start_at s i) a then Some (entry_at s i) else None) Some)
    more None h = here (leb (start_at s i) a) refl h
    more (Some e) b =
        let f : start_at s i ≤ start_at s e.number = least s n i up e.number (omega (arith, b.low)) (omega (arith, b.high)) in
        let g : e.start ≡ start_at s e.number = ap (λ (x : Entry). x.start) b.same in
        record {
          low = omega (arith, b.low);
          high = omega (arith, b.high);
          same = b.same;
          below = b.below;
          between = from (λ j. start_at s j ≤ a → start_at s j ≤ e.start) i n (λ h. omega (arith, f, g)) b.between;
        }

-- what the laws ask of an answer
module _ (image : ℕ) (s : List ℕ) (pc : ℕ) where
  abbrev Lawful : Res (Option Entry) → Type 0
  Lawful (Ok (Some e)) = Greatest image s pc e
  Lawful (Ok None) = (i : ℕ) → i < length s / 8 → even pc < image + (entry_at s i).start
  Lawful (Err r) = Unit {0}

  after : (t : Bool) (r : Refusal) (x : Res (Option Entry)) → (t ≡ true → Lawful x) → Lawful (need t r >> x)
  after true r x h = h refl
  after false r x h = tt

  answered : image ≤ even pc → (o : Option Entry) → Seen s (even pc - image) 0 (length s / 8) o → Lawful (Ok o)
  answered h None f = λ i lo. omega (arith, h, f i (omega arith) (omega (arith, lo)))
  answered h (Some e) b = record {
    inside = omega (arith, b.high);
    same = b.same;
    below = omega (arith, h, b.below);
    between = λ i lo q. b.between i (omega arith) (omega (arith, lo)) (omega (arith, h, q));
  }

  lawful : Lawful (find image s pc)
  unfolding find find_rva
  lawful =
      after (eqb (length s % 8) 0) UnfitInput _
      (λ w. after (leb image (even pc)) PcBelowBase _
      (λ h. after (eqb (length s % 8) 0) UnfitInput _
      (λ _. after (ascending (starts s)) StartsNotAscending _
      (λ up. answered (leb-true image (even pc) h) (last_up_to (entries s) (even pc - image)) (seen s (even pc - image) (length s / 8) 0 up)))))

pub find-laws : FindLaws ours
find-laws = record { found = λ image s pc e q. subst (Lawful image s pc) q (lawful image s pc); nothing = λ image s pc q. subst (Lawful image s pc) q (lawful image s pc) }

-- the second of the listing example's records covers this pc
first-answered : first-only.find 0x00400000 (Example.inputs).pdata 0x00402010 ≡ Ok (Some (entry_at (Example.inputs).pdata 0))
unfolding opened
first-answered = refl

no-first-only : FindLaws first-only → ⊥
no-first-only h =
    let g = h.found 0x00400000 (Example.inputs).pdata 0x00402010 _ first-answered in
    let z : 0x2000 ≤ 0x1000 = g.between 1 (omega arith) (omega arith) in omega arith
