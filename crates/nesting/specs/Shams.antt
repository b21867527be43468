-- Two wrong outlines: everything outermost, and each region under the first one of the table that holds it.
use Rattle.std.specs.Prelude.{ℕ, zero, suc, Bool, List, [], ◌∷◌, eqb, if◌then◌else◌, Option, None, Some}
use Rattle.words.specs.Answer.{maybe}
use Rattle.regions.specs.declared.Region.{Region}
use Rattle.regions.specs.Region.{encloses}
use Rattle.nesting.specs.Outline as Made
use Rattle.nesting.specs.Outline.{Outline, region, in_order}

unfoldable pub flat : List Region → Outline
flat [] = Made.none
flat (r ∷ rs) = region r Made.none (flat rs)

abbrev pub outermost : List Region → Outline
outermost rs = flat (in_order rs)

-- the first of a table that holds a region
unfoldable pub first_holder : List Region → Region → Option Region
first_holder [] r = None
first_holder (s ∷ ss) r = if encloses s r then Some s else first_holder ss r

-- two holders are one: both none, or of the same number
abbrev pub same : Option Region → Option Region → Bool
same a b = eqb (maybe a 0 (λ r. suc r.number)) (maybe b 0 (λ r. suc r.number))

-- those of a list whose first holder is this one
unfoldable pub held_by : (table : List Region) → Option Region → List Region → List Region
held_by rs u [] = []
held_by rs u (r ∷ l) = let rest = held_by rs u l in if same (first_holder rs r) u then r ∷ rest else rest

-- regions side by side, each with those that it is the first to hold, to a depth
unfoldable pub hung : (depth : ℕ) → (table : List Region) → List Region → Outline
hung zero rs l = Made.none
hung (suc d) rs [] = Made.none
hung (suc d) rs (r ∷ l) = region r (hung d rs (held_by rs (Some r) (in_order rs))) (hung (suc d) rs l)

abbrev pub first_holds : List Region → Outline
first_holds rs = hung 64 rs (held_by rs None (in_order rs))
