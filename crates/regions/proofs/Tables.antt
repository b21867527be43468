-- A region table by what its tests say; a table that is given lies in the .xdata, and it lists the regions of RULES 2.14.
-- Assumes nothing.
use Rattle.std.specs.Prelude.{if◌then◌else◌, Result, Ok, Err, IfOk}
use Prim.Native.Nat.{ℕ, ◌+◌, ◌-◌, ◌*◌, ◌%◌, ◌≤◌, ◌<◌}
use mathlib.Core.Path.{◌≡◌, refl, sym, ap, ◌∙◌}
use mathlib.Core.Bool.{Bool, true, false, ◌&&◌}
use mathlib.Core.List.{List, []}
use lib.Dec.{leb, eqb}
use native.Mathlib.Omega.{arith}
use borrow.Author.Tests.{leb-true, le-leb, lt-leb}
use Rattle.words.specs.declared.Refusal.{Refusal}
use Rattle.words.specs.Answer.{Res, either}
use Rattle.words.proofs.Answers.{need-ok}
use Rattle.words.proofs.Tests.{both, and-true, and-false}
use Rattle.lent.specs.Lent.{Lent, end, holds, word_at}
use Rattle.xdata.specs.Xdata.{fit_xdata, handled, xdata_size}
use Rattle.regions.specs.declared.Region.{Region}
use Rattle.regions.specs.declared.Regions.{Regions}
use Rattle.regions.specs.declared.RegionRefusal.{RegionRefusal}
use Rattle.regions.specs.declared.RegionRefusal.TheVariants.{Record, TableOutside, Crossed}
use Rattle.regions.specs.Region.{regions_from, sound}
use Rattle.regions.specs.Table.{Listed, listed, denied, table_lent, first_of, table_at, table_behind, regions_of}
use Rattle.regions.specs.AsCoded.Table.{table_given, sound_table, table_read, table_after, table_of, listed_in}

-- bytes that are lent lie between the ends
pub inside : (x : Lent) (a n : ℕ) → holds x a n ≡ true → (x.base ≤ a) × (a + n ≤ end x)
inside x a n h = let p = both (leb x.base a) (leb (a + n) (end x)) h in (leb-true _ _ p.0, leb-true _ _ p.1)

-- what 15 asks, by the count word
pub lent-no-count : (x : Lent) (a : ℕ) → holds x a 4 ≡ false → false ≡ table_lent x a
lent-no-count x a h = rw h refl

module _ (x : Lent) (a w : ℕ) (e : w ≡ word_at x a) (h : holds x a 4 ≡ true) where
  counted : (t : Bool) → leb w 64 ≡ t → (holds x a 4 && leb (word_at x a) 64) ≡ t
  counted t k = sym (and-true (leb (word_at x a) 64) h) ∙ ap (λ v. leb v 64) (sym e) ∙ k

  pub lent-many : 64 < w → false ≡ table_lent x a
  lent-many m = and-false _ (counted false (lt-leb w 64 m))

  pub lent-by-count : w ≤ 64 → holds x (a + 4) (16 * w) ≡ table_lent x a
  lent-by-count m = ap (λ v. holds x (a + 4) (16 * v)) e ∙ and-true _ (counted true (le-leb w 64 m))

-- a table that is lent has at most 64 regions, and the first begins at or before the end of the .xdata
pub lent-inside : (x : Lent) (a : ℕ) → table_lent x a ≡ true → (x.base ≤ a) × (a + 4 ≤ end x) × (word_at x a ≤ 64)
lent-inside x a h =
    let p = both (holds x a 4 && leb (word_at x a) 64) (holds x (a + 4) (16 * word_at x a)) h in
    let q = both (holds x a 4) (leb (word_at x a) 64) p.0 in
    let i = inside x a 4 q.0 in
    (i.0, i.1, leb-true _ _ q.1)

-- a record has a size only in an .xdata that ends at 2^32 or before
pub size-fit : (x : Lent) (a n : ℕ) → xdata_size x a ≡ Ok n → fit_xdata x ≡ true
unfolding xdata_size
size-fit x a n h = (need-ok (fit_xdata x) _ _ n h).0

pub size-end : (x : Lent) (a n : ℕ) → xdata_size x a ≡ Ok n → end x ≤ 4294967296
size-end x a n h = leb-true _ _ (both (eqb (x.base % 4) 0) (leb (end x) 4294967296) (size-fit x a n h)).1

-- ---- the table, by the record's size
pub table-given : (x : Lent) (a n : ℕ) → xdata_size x a ≡ Ok n → table_of x a ≡ table_after x (a - a % 4) n
unfolding table_of
table-given x a n h = rw h refl

pub table-refused : (x : Lent) (a : ℕ) (why : Refusal) → xdata_size x a ≡ Err why → table_of x a ≡ Err (Record why)
unfolding table_of
table-refused x a why h = rw h refl

-- ---- the table and its regions by whether they are lent, and sound
abbrev pub rows_of : Lent → (at : ℕ) → List Region
rows_of x a = regions_from x.bytes (first_of x a) 0 (word_at x a)

abbrev sound_by : Bool → List Region → Listed
sound_by t rs = if t then listed rs else denied Crossed

abbrev pub table_by : Bool → List Region → Listed
table_by t rs = if t then sound_by (sound rs) rs else denied TableOutside

abbrev read_by : Lent → (at : ℕ) → Bool → Result Regions RegionRefusal
read_by x a t = if t then sound_table x.bytes (first_of x a) (word_at x a) else Err TableOutside

-- ---- where a table begins, and how many regions it has
abbrev Small : Result Regions RegionRefusal → Type 0
Small r = IfOk r (λ t. (t.first ≤ 4294967296) × (t.count ≤ 64))

small-sound : (f n : ℕ) → f ≤ 4294967296 → n ≤ 64 → (t : Bool) → Small (if t then table_given f n else Err Crossed)
small-sound f n p q true = (p, q)
small-sound f n p q false = tt

small-read : (x : Lent) (a : ℕ) → end x ≤ 4294967296 → (t : Bool) → table_lent x a ≡ t → Small (read_by x a t)
small-read x a m true h = let p = lent-inside x a h in small-sound (first_of x a) (word_at x a) (omega (arith, p.1)) p.2 (sound (rows_of x a))
small-read x a m false h = tt

small-after : (x : Lent) (a : ℕ) → end x ≤ 4294967296 → (t : Bool) → Small (if t then table_read x a else table_given 0 0)
small-after x a m true = small-read x a m (table_lent x a) refl
small-after x a m false = (omega arith, omega arith)

pub table-small : (x : Lent) (a : ℕ) → Small (table_of x a)
unfolding table_of
table-small x a = go (xdata_size x a) refl
  where
    go : (r : Res ℕ) → xdata_size x a ≡ r → Small (either r (λ r. Err (Record r)) (λ n. table_after x (a - a % 4) n))
    go (Ok n) e = small-after x (a - a % 4 + n) (size-end x a n e) (handled (word_at x (a - a % 4)))
    go (Err why) e = tt

-- ---- what a table lists
listed-sound : (s : List ℕ) (f n : ℕ) (t : Bool) → listed_in s (if t then table_given f n else Err Crossed) ≡ sound_by t (regions_from s f 0 n)
listed-sound s f n true = refl
listed-sound s f n false = refl

listed-read : (x : Lent) (a : ℕ) (t : Bool) → listed_in x.bytes (read_by x a t) ≡ table_by t (rows_of x a)
listed-read x a true = listed-sound x.bytes (first_of x a) (word_at x a) (sound (rows_of x a))
listed-read x a false = refl

listed-after :
    (x : Lent) (a : ℕ) (t : Bool) → listed_in x.bytes (if t then table_read x a else table_given 0 0) ≡ (if t then table_at x a else listed [])
unfolding regions_from
listed-after x a true = listed-read x a (table_lent x a)
listed-after x a false = refl

listed-either :
    (x : Lent) (a : ℕ) (r : Res ℕ)
    → listed_in x.bytes (either r (λ r. Err (Record r)) (λ n. table_after x a n))
    ≡ either r (λ r. denied (Record r)) (λ n. table_behind x a n)
listed-either x a (Ok n) = listed-after x (a + n) (handled (word_at x a))
listed-either x a (Err why) = refl

-- the table names the regions of the record
pub table-listed : (x : Lent) (a : ℕ) → listed_in x.bytes (table_of x a) ≡ regions_of x a
unfolding table_of regions_of
table-listed x a = listed-either x (a - a % 4) (xdata_size x a)

-- the same by its answer
pub table-lists : (x : Lent) (a : ℕ) (t : Regions) → table_of x a ≡ Ok t → regions_of x a ≡ listed (regions_from x.bytes t.first 0 t.count)
table-lists x a t h = sym (table-listed x a) ∙ ap (listed_in x.bytes) h

pub table-denies : (x : Lent) (a : ℕ) (r : RegionRefusal) → table_of x a ≡ Err r → regions_of x a ≡ denied r
table-denies x a r h = sym (table-listed x a) ∙ ap (listed_in x.bytes) h
