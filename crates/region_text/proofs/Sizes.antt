-- The largest outline: how much room a frame's regions need. A table has at most 64 regions, each stands in the outline once, and a region
-- stands no deeper than there are regions.
-- Assumes nothing.
use Rattle.std.specs.Prelude.{if◌then◌else◌, Ok, Err}
use Prim.Native.Nat.{ℕ, suc, ◌+◌, ◌-◌, ◌*◌, ◌%◌, ◌≤◌}
use mathlib.Core.Path.{◌≡◌, refl, ap, ◌∙◌}
use mathlib.Core.Bool.{Bool, true, false}
use mathlib.Core.List.{List, [], ◌∷◌, ◌++◌}
use lib.ListN.{length, length-append, length-replicate}
use native.Mathlib.Omega.{arith}
use Rattle.words.specs.Answer.{Res, either}
use Rattle.lent.specs.Lent.{Lent, word_at}
use Rattle.xdata.specs.Xdata.{handled, xdata_size}
use Rattle.regions.specs.declared.Region.{Region}
use Rattle.regions.specs.declared.RegionRefusal.{RegionRefusal}
use Rattle.regions.specs.declared.RegionRefusal.TheVariants.{Record, TableOutside, Crossed}
use Rattle.regions.specs.Region.{regions_from, within, covers, before, sound}
use Rattle.regions.specs.Table.{listed, denied, region_number, table_lent, first_of, table_at, table_behind, regions_of}
use Rattle.regions.proofs.Rows.{rows-length}
use Rattle.regions.proofs.Tables.{lent-inside}
use Rattle.nesting.specs.Outline.{Outline, none, region, placed, in_order, front, behind, nest, outline}
use Rattle.nesting.specs.Outline as Made
use Rattle.text.specs.Text.{text}
use Rattle.text.proofs.Numbers.{decimal-limit, hex8-length}
use Rattle.region_text.specs.RegionText.{mark, region_line, outline_text, refused_line, regions_text}

-- how many regions an outline has
abbrev total : Outline → ℕ
total o = length (Made.regions_of o)

total-region : (r : Region) (i b : Outline) → total (region r i b) ≡ suc (total i + total b)
unfolding Made.regions_of
total-region r i b = ap suc (length-append (Made.regions_of i) (Made.regions_of b))

total-none : total none ≡ 0
unfolding Made.regions_of
total-none = refl

-- a region's line: two spaces for each level, the mark, four words and the end
mark-length : (a : ℕ) (r : Region) → length (mark a r) ≡ 1
mark-length a r = go (within a r)
  where
    go : (t : Bool) → length (if t then text "*" else text "-") ≡ 1
    go true = refl
    go false = refl

line-length : (n a : ℕ) (r : Region) → length (region_line n a r) ≡ 2 * n + 38
line-length n a r =
    let begin = hex8-length r.begin in
    let end = hex8-length r.end in
    let handler = hex8-length r.handler in
    let target = hex8-length r.target in
    simp length-append (omega (arith, length-replicate {A = ℕ} (2 * n) 0x20, mark-length a r))

-- no line stands deeper than 64 where the level and the number of regions are at most 65 together
outline-length : (n a : ℕ) (o : Outline) → n + total o ≤ 65 → length (outline_text n a o) ≤ 166 * total o
unfolding outline_text
outline-length n a none h = omega arith
outline-length n a (region r i b) h =
    let t = total-region r i b in
    let inner = outline-length (n + 1) a i (omega arith) in
    let beside = outline-length n a b (omega arith) in
    let joined = length-append (region_line n a r ++ outline_text (n + 1) a i) (outline_text n a b) in
    omega (arith, length-append (region_line n a r) (outline_text (n + 1) a i), line-length n a r)

-- a region splits an outline in two, so an outline has as many regions as its list
split : (r : Region) (o : Outline) → total (front r o) + total (behind r o) ≡ total o
unfolding front behind
split r none = omega (arith, total-none)
split r (region s i b) = go (covers r s) (split r b)
  where
    go : (t : Bool) → total (front r b) + total (behind r b) ≡ total b
        → total (if t then region s i (front r b) else none) + total (if t then behind r b else region s i b) ≡ total (region s i b)
    go true h = omega (arith, total-region s i (front r b), total-region s i b)
    go false h = omega (arith, total-none)

nest-total : (rs : List Region) → total (nest rs) ≡ length rs
unfolding nest
nest-total [] = total-none
nest-total (r ∷ rs) = omega (arith, total-region r (front r (nest rs)) (behind r (nest rs)), split r (nest rs), nest-total rs)

placed-length : (r : Region) (rs : List Region) → length (placed r rs) ≡ suc (length rs)
unfolding placed
placed-length r [] = refl
placed-length r (s ∷ ss) = go (before s r) (placed-length r ss)
  where
    go : (t : Bool) → length (placed r ss) ≡ suc (length ss) → length (if t then s ∷ placed r ss else r ∷ s ∷ ss) ≡ suc (suc (length ss))
    go true h = ap suc h
    go false h = refl

order-length : (rs : List Region) → length (in_order rs) ≡ length rs
unfolding in_order
order-length [] = refl
order-length (r ∷ rs) = placed-length r (in_order rs) ∙ ap suc (order-length rs)

outline-total : (rs : List Region) → total (outline rs) ≡ length rs
outline-total rs = nest-total (in_order rs) ∙ order-length rs

-- the text of at most 64 regions, and of a refusal
listed-length : (a : ℕ) (rs : List Region) → length rs ≤ 64 → length (regions_text a (listed rs)) ≤ 10700
unfolding regions_text
listed-length a rs h = omega (arith, outline-length 1 a (outline rs) (omega (arith, outline-total rs)), outline-total rs)

refused-length : (r : RegionRefusal) → length (refused_line r) ≤ 10700
refused-length r = simp length-append (omega (arith, decimal-limit (region_number r)))

table_fits : (a : ℕ) (x : Lent) (w : ℕ) → length (regions_text a (table_at x w)) ≤ 10700
unfolding regions_text
table_fits a x w = go (table_lent x w) refl (sound rs)
  where
    rs : List Region
    rs = regions_from x.bytes (first_of x w) 0 (word_at x w)

    go : (t : Bool) → table_lent x w ≡ t → (u : Bool) → length (regions_text a (if t then (if u then listed rs else denied Crossed) else denied TableOutside)) ≤ 10700
    go true e true = listed-length a rs (omega (arith, rows-length x.bytes (first_of x w) (word_at x w) 0, (lent-inside x w e).2))
    go true e false = refused-length Crossed
    go false e u = refused-length TableOutside

-- the largest outline of a record's regions
pub regions-fit : (a : ℕ) (x : Lent) (w : ℕ) → length (regions_text a (regions_of x w)) ≤ 10700
unfolding regions_of regions_text
regions-fit a x w = go (xdata_size x w)
  where
    at : ℕ
    at = w - w % 4

    behind-fits : (n : ℕ) (t : Bool) → length (regions_text a (if t then table_at x (at + n) else listed [])) ≤ 10700
    behind-fits n true = table_fits a x (at + n)
    behind-fits n false = listed-length a [] (omega arith)

    go : (s : Res ℕ) → length (regions_text a (either s (λ r. denied (Record r)) (λ n. table_behind x at n))) ≤ 10700
    go (Ok n) = behind-fits n (handled (word_at x at))
    go (Err r) = refused-length (Record r)
