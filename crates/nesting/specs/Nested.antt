-- What an outline of a table has to be (RULES 8.15), said without the way it is made.
use Rattle.std.specs.Prelude.{ℕ, suc, ◌≤◌, ◌≡◌, ◌⊎◌, Bool, true, false, List, [], ◌∷◌, length, if◌then◌else◌, Option, None, Some}
use Rattle.regions.specs.declared.Region.{Region}
use Rattle.regions.specs.Region.{encloses, before}
use Rattle.nesting.specs.Outline as Made
use Rattle.nesting.specs.Outline.{Outline, region, regions_of, depth}

-- how many of a list pass a test
unfoldable pub count : (Region → Bool) → List Region → ℕ
count p [] = 0
count p (r ∷ rs) = if p r then suc (count p rs) else count p rs

-- a region is one of a list
unfoldable pub Among : Region → List Region → Type 0
Among r [] = ⊥
Among r (s ∷ ss) = (r ≡ s) ⊎ Among r ss

-- under no region: none of the list holds it. Under one: that holds it, and so does no smaller one: every other that holds it holds that
abbrev pub Under : List Region → Option Region → Region → Type 0
Under rs None r = (s : Region) → Among s rs → encloses s r ≡ false
Under rs (Some u) r =
    Among u rs × (encloses u r ≡ true) × ((s : Region) → Among s rs → encloses s r ≡ true → (s ≡ u) ⊎ (encloses s u ≡ true))

-- every region of an outline stands under the smallest one that holds it
unfoldable pub Parents : List Region → Option Region → Outline → Type 0
Parents rs u Made.none = Unit {0}
Parents rs u (region r i b) = Under rs u r × Parents rs (Some r) i × Parents rs u b

-- a region comes before the next one beside it, if there is one
abbrev pub Leads : Region → Outline → Type 0
Leads r Made.none = Unit {0}
Leads r (region s i b) = before r s ≡ true

-- the regions side by side stand in order, everywhere
unfoldable pub Sorted : Outline → Type 0
Sorted Made.none = Unit {0}
Sorted (region r i b) = Leads r b × Sorted i × Sorted b

pub record Nested (rs : List Region) (o : Outline) : Type 0 where
  -- whatever is counted, there are as many in the outline as in the table: each region stands in it once
  pub once : (p : Region → Bool) → count p (regions_of o) ≡ count p rs
  pub parents : Parents rs None o
  pub sorted : Sorted o
  pub shallow : depth o ≤ length rs
