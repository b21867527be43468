-- An outline by computation: regions side by side, one in another, and two of one range, of which the earlier one is outer.
-- Assumes nothing.
use Prim.Native.Nat.{ℕ}
use mathlib.Core.Path.{◌≡◌, refl}
use mathlib.Core.Bool.{true, false}
use mathlib.Core.List.{List, [], ◌∷◌}
use Rattle.lent.proofs.Bytes.{bytes_of}
use Rattle.regions.specs.declared.Region.{Region}
use Rattle.regions.specs.Region.{regions_from, within, cross, encloses, sound}
use Rattle.nesting.specs.Outline.{none, region, in_order, outline, depth}
use Rattle.nesting.proofs.Opened.{opened}

-- the region of a number, from a begin up to an end
abbrev pub at : (number begin end : ℕ) → Region
at k b e = record { number = k; begin = b; end = e; handler = 7; target = 9 }

abbrev table : List Region
table = at 0 10 20 ∷ at 1 40 60 ∷ at 2 0 30 ∷ at 3 10 20 ∷ at 4 14 16 ∷ at 5 12 14 ∷ []

-- its records one behind the other, as they are lent
abbrev bytes : List ℕ
bytes =
    bytes_of
    (10 ∷ 20 ∷ 7 ∷ 9 ∷ 40 ∷ 60 ∷ 7 ∷ 9 ∷ 0 ∷ 30 ∷ 7 ∷ 9 ∷ 10 ∷ 20 ∷ 7 ∷ 9 ∷ 14 ∷ 16 ∷ 7 ∷ 9 ∷ 12 ∷ 14 ∷ 7 ∷ 9 ∷ [])

table-read : regions_from bytes 0 0 6 ≡ table
unfolding opened
table-read = refl

table-sound : sound table ≡ true
unfolding opened
table-sound = refl

in_order_lem : in_order table ≡ at 2 0 30 ∷ at 0 10 20 ∷ at 3 10 20 ∷ at 5 12 14 ∷ at 4 14 16 ∷ at 1 40 60 ∷ []
unfolding opened
in_order_lem = refl

--   0..30  (2)
--     10..20  (0)
--       10..20  (3)
--         12..14  (5)
--         14..16  (4)
--   40..60  (1)
drawn :
    outline table
    ≡ region (at 2 0 30) (region (at 0 10 20) (region (at 3 10 20) (region (at 5 12 14) none (region (at 4 14 16) none none)) none) none)
    (region (at 1 40 60) none none)
unfolding opened
drawn = refl

drawn-depth : depth (outline table) ≡ 4
unfolding opened
drawn-depth = refl

-- regions that touch, and that begin or end together, do not cross; those that lie partly in one another do
touching : cross (at 0 10 20) (at 1 20 30) ≡ false
touching = refl

one-begin : cross (at 0 10 20) (at 1 10 30) ≡ false
one-begin = refl

one_end : cross (at 0 10 20) (at 1 15 20) ≡ false
one_end = refl

crossing : cross (at 0 10 20) (at 1 15 21) ≡ true
crossing = refl

-- of one range the earlier one holds the later one, and not the other way round
equal-earlier : encloses (at 0 10 20) (at 3 10 20) ≡ true
equal-earlier = refl

equal-later : encloses (at 3 10 20) (at 0 10 20) ≡ false
equal-later = refl

-- begin counts, end does not
at-begin : within 10 (at 0 10 20) ≡ true
at-begin = refl

at-end : within 20 (at 0 10 20) ≡ false
at-end = refl
