-- The two wrong outlines of specs/Shams.antt are refused on three regions, one in another: with all of them outermost the middle one is held,
-- and under the first holder the inner one is not under the smallest. The second is right in all else, so the parents are what tells.
-- Assumes nothing.
use Prim.Native.Nat.{ℕ, ◌≤◌}
use mathlib.Core.Path.{◌≡◌, refl, ap}
use mathlib.Core.Logic.{◌⊎◌, inl, inr}
use mathlib.Core.Bool.{Bool, true, false}
use mathlib.Core.List.{List, [], ◌∷◌}
use lib.ListN.{length}
use native.Mathlib.Omega.{arith}
use Rattle.lent.proofs.Bytes.{bytes_of}
use Rattle.regions.specs.declared.Region.{Region}
use Rattle.regions.specs.Region.{encloses, sound}
use Rattle.nesting.specs.Outline.{none, region, regions_of, depth, outline}
use Rattle.nesting.specs.Nested.{count, Nested, Sorted}
use Rattle.nesting.specs.Shams.{outermost, first_holds}
use Rattle.nesting.proofs.Opened.{opened}
use Rattle.nesting.proofs.Examples.{at}
use Rattle.nesting.proofs.Nesting.{nested}

abbrev outer : Region
outer = at 0 0 30

abbrev middle : Region
middle = at 1 10 20

abbrev inner : Region
inner = at 2 12 14

abbrev three : List Region
three = outer ∷ middle ∷ inner ∷ []

three-sound : sound three ≡ true
unfolding opened
three-sound = refl

three-drawn : outline three ≡ region outer (region middle (region inner none none) none) none
unfolding opened
three-drawn = refl

-- that one is as it has to be: the table as it is lent
three-nested : Nested three (outline three)
unfolding opened
three-nested = nested (bytes_of (0 ∷ 30 ∷ 7 ∷ 9 ∷ 10 ∷ 20 ∷ 7 ∷ 9 ∷ 12 ∷ 14 ∷ 7 ∷ 9 ∷ [])) 0 3 refl

-- everything outermost: the outer one holds the middle one
flat-drawn : outermost three ≡ region outer none (region middle none (region inner none none))
unfolding opened
flat-drawn = refl

no-outermost : Nested three (outermost three) → ⊥
unfolding opened
no-outermost h =
    let f : true ≡ false = h.parents.2.0 outer (inl refl) in
    let z : ◌≡◌ {A = ℕ} 0 1 = cc in omega arith

-- under the first holder: the middle one holds the inner one too, and does not hold the outer one
first-drawn : first_holds three ≡ region outer (region middle none (region inner none none)) none
unfolding opened
first-drawn = refl

no-first : Nested three (first_holds three) → ⊥
unfolding opened
no-first h = go (h.parents.1.2.0.2 middle (inr (inl refl)) refl)
  where
    go : (middle ≡ outer) ⊎ (encloses middle outer ≡ true) → ⊥
    go (inl e) = let z : ◌≡◌ {A = ℕ} 1 0 = ap (λ r. r.number) e in omega arith
    go (inr e) = let f : false ≡ true = e in let z : ◌≡◌ {A = ℕ} 0 1 = cc in omega arith

-- each region once, in order, and no deeper than there are regions
first-once : (p : Region → Bool) → count p (regions_of (first_holds three)) ≡ count p three
unfolding opened
first-once p = refl

first-sorted : Sorted (first_holds three)
unfolding opened
first-sorted = (tt, (refl, tt, (tt, tt, tt)), tt)

first-shallow : depth (first_holds three) ≤ length three
unfolding opened
first-shallow = omega arith
