-- A guarded region: a record of four words in the table behind a handler (RULES 2.14).
--
--   begin | end | handler | target       all RVA; it holds the RVAs from begin on that are below end
use Rattle.std.specs.Prelude.{ℕ, zero, suc, ◌+◌, ◌*◌, List, [], ◌∷◌, Bool, ◌&&◌, ◌||◌, not, true, leb, ltb, eqb, if◌then◌else◌}
use Rattle.lent.specs.Little.{word32}
use Rattle.regions.specs.declared.Region.{Region}

-- the region of a number whose words stand from an offset on
abbrev pub region_from : List ℕ → (at number : ℕ) → Region
region_from s a k = record { number = k; begin = word32 s a; end = word32 s (a + 4); handler = word32 s (a + 8); target = word32 s (a + 12) }

-- the region of a number, where the first one begins at an offset
abbrev pub region_in : List ℕ → (first k : ℕ) → Region
region_in s f k = region_from s (f + 16 * k) k

-- n regions, the first of which has this number
unfoldable pub regions_from : List ℕ → (first number n : ℕ) → List Region
regions_from s f k zero = []
regions_from s f k (suc n) = region_in s f k ∷ regions_from s f (k + 1) n

-- an RVA is in a region: begin counts, end does not (RULES 8.16)
abbrev pub within : (rva : ℕ) → Region → Bool
within a r = leb r.begin a && ltb a r.end

-- begin is below end
abbrev pub upright : Region → Bool
upright r = ltb r.begin r.end

-- the second begins inside the first and ends behind it
abbrev pub overlaps : Region → Region → Bool
overlaps r s = ltb r.begin s.begin && ltb s.begin r.end && ltb r.end s.end

-- two regions cross; regions that touch, or that begin or end together, do not (RULES 9.16)
abbrev pub cross : Region → Region → Bool
cross r s = overlaps r s || overlaps s r

-- the range of the second is all in the range of the first
abbrev pub covers : Region → Region → Bool
covers r s = leb r.begin s.begin && leb s.end r.end

-- the first holds the second: of equal ranges the one that stands earlier in the table (RULES 8.15)
abbrev pub encloses : Region → Region → Bool
encloses r s =
    covers r s && (if eqb r.begin s.begin && eqb r.end s.end then ltb r.number s.number else true)

-- the order of regions side by side: by begin, then the larger end first, then as in the table (RULES 8.15)
abbrev pub before : Region → Region → Bool
before r s =
    if eqb r.begin s.begin
    then (if eqb r.end s.end then ltb r.number s.number else ltb s.end r.end)
    else ltb r.begin s.begin

-- none of a list crosses this one
unfoldable pub clear : Region → List Region → Bool
clear r [] = true
clear r (s ∷ ss) = not (cross r s) && clear r ss

-- what 16 asks of a table: each region is upright, and no two cross (RULES 9.16)
unfoldable pub sound : List Region → Bool
sound [] = true
sound (r ∷ rs) = upright r && clear r rs && sound rs
