-- Order 1, of our reader of regions: by what a table's tests say.
-- Assumes nothing.
use Rattle.std.specs.Prelude.{if◌then◌else◌, Ok, Err}
use Prim.Native.Nat.{ℕ, ◌+◌, ◌-◌, ◌%◌, ◌≤◌}
use mathlib.Core.Path.{◌≡◌, refl, ap, subst}
use mathlib.Core.Logic.{◌⊎◌, inl, inr}
use mathlib.Core.Bool.{Bool, true, false}
use mathlib.Core.List.{List, []}
use lib.ListN.{length}
use native.Mathlib.Omega.{arith}
use Rattle.words.specs.Refusals.{number}
use Rattle.words.specs.declared.Refusal.{Refusal}
use Rattle.words.specs.Answer.{Res, either}
use Rattle.lent.specs.Lent.{Lent, word_at}
use Rattle.xdata.specs.Xdata.{handled, xdata_size}
use Rattle.regions.specs.declared.Region.{Region}
use Rattle.regions.specs.declared.RegionRefusal.{RegionRefusal}
use Rattle.regions.specs.declared.RegionRefusal.TheVariants.{Record, TableOutside, Crossed}
use Rattle.regions.specs.Region.{regions_from, sound}
use Rattle.regions.specs.Table.{Listed, listed, denied, region_number, table_lent, first_of, table_at, table_behind, regions_of}
use Rattle.regions.proofs.Tables.{lent-inside}
use Rattle.regions.proofs.Rows.{rows-length}
use Rattle.nesting.specs.Outline.{outline, depth}
use Rattle.nesting.specs.Nested.{Nested}
use Rattle.nesting.proofs.Nesting.{nested, depth-64}
use Rattle.region_text.specs.RegionText.{regions_text}
use Rattle.outlining.proofs.Stripping.{stripped-listing}
use Rattle.demands.specs.Regions.{ours_of_regions, Order1}
use Rattle.demands.proofs.Numbers.{Only, only-size}
use Rattle.demands.proofs.RegionsWider.{regions-stay}

abbrev Number : ℕ → Type 0
Number k = (k ≡ 1) ⊎ (k ≡ 4) ⊎ (k ≡ 5) ⊎ (k ≡ 15) ⊎ (k ≡ 16)

-- what the regions of a record can come to
data Lists : Listed → Type 0 where
  not-a-record : (q : Refusal) → Number (number q) → Lists (denied (Record q))
  not-lent : Lists (denied TableOutside)
  not_sound : Lists (denied Crossed)
  given : (s : List ℕ) (f n : ℕ) → n ≤ 64 → sound (regions_from s f 0 n) ≡ true → Lists (listed (regions_from s f 0 n))

module _ (x : Lent) where
  lists-sound : (a : ℕ) → table_lent x a ≡ true → (v : Bool) → sound (regions_from x.bytes (first_of x a) 0 (word_at x a)) ≡ v
      → Lists (if v then listed (regions_from x.bytes (first_of x a) 0 (word_at x a)) else denied Crossed)
  lists-sound a h true e = given x.bytes (first_of x a) (word_at x a) (lent-inside x a h).2 e
  lists-sound a h false e = not_sound

  lists-table : (a : ℕ) (t : Bool) → table_lent x a ≡ t → Lists (if t then (if sound (regions_from x.bytes (first_of x a) 0 (word_at x a)) then listed (regions_from x.bytes (first_of x a) 0 (word_at x a)) else denied Crossed) else denied TableOutside)
  lists-table a true h = lists-sound a h (sound (regions_from x.bytes (first_of x a) 0 (word_at x a))) refl
  lists-table a false h = not-lent

  lists-behind : (a n : ℕ) (t : Bool) → Lists (if t then table_at x (a + n) else listed [])
  unfolding regions_from sound
  lists-behind a n true = lists-table (a + n) (table_lent x (a + n)) refl
  lists-behind a n false = given [] 0 0 (omega arith) refl

  lists : (a : ℕ) → Lists (regions_of x a)
  unfolding regions_of
  lists a = go (xdata_size x a) (only-size Number (inl refl) (inr (inl refl)) (inr (inr (inl refl))) x a)
    where
      go : (r : Res ℕ) → Only Number r → Lists (either r (λ q. denied (Record q)) (λ n. table_behind x (a - a % 4) n))
      go (Ok n) h = lists-behind (a - a % 4) n (handled (word_at x (a - a % 4)))
      go (Err q) h = not-a-record q (h q refl)

-- ---- the claims, by cases
denied-number : {l : Listed} (r : RegionRefusal) → Lists l → l ≡ denied r → Number (region_number r)
denied-number r (not-a-record q h) e = let z : Record q ≡ r = cc in subst (λ w. Number (region_number w)) z h
denied-number r not-lent e = let z : TableOutside ≡ r = cc in subst (λ w. Number (region_number w)) z (inr (inr (inr (inl refl))))
denied-number r not_sound e = let z : Crossed ≡ r = cc in subst (λ w. Number (region_number w)) z (inr (inr (inr (inr refl))))
denied-number r (given s f n h k) e = absurd (let z : ◌≡◌ {A = ℕ} 0 1 = cc in omega arith)

-- a table that is listed: its regions are few, and their outline is nested and no deeper than 64
record Fine (rs : List Region) : Type 0 where
  short : length rs ≤ 64
  nests : Nested rs (outline rs)
  shallow : depth (outline rs) ≤ 64

fine : {l : Listed} (rs : List Region) → Lists l → l ≡ listed rs → Fine rs
fine rs (not-a-record q h) e = absurd (let z : ◌≡◌ {A = ℕ} 0 1 = cc in omega arith)
fine rs not-lent e = absurd (let z : ◌≡◌ {A = ℕ} 0 1 = cc in omega arith)
fine rs not_sound e = absurd (let z : ◌≡◌ {A = ℕ} 0 1 = cc in omega arith)
fine rs (given s f n h k) e =
    let z : regions_from s f 0 n ≡ rs = cc in
    subst Fine z (record { short = omega (arith, h, rows-length s f n 0); nests = nested s f n k; shallow = depth-64 s f n h })

pub order1 : Order1 ours_of_regions
unfolding regions_text
order1 = record {
  told = λ x at. refl;
  drawn = λ x at a. refl;
  outlined = λ s. refl;
  numbered = λ x at r e. denied-number r (lists x at) e;
  few = λ x at rs e. (fine rs (lists x at) e).short;
  stays = λ x x' at m f l. regions-stay x x' m at f l;
  printed = λ x at a rs e. let f = fine rs (lists x at) e in (outline rs, f.nests, f.shallow, ap (regions_text a) e);
  refused = λ x at a r e. ap (regions_text a) e;
  listing = stripped-listing;
}
