-- What holds of each row of the table holds of the row of each byte: a code has one to four bytes, and an instruction at most two
-- halfwords; a code that undoes something has an instruction.
-- Assumes nothing.
use Rattle.std.specs.Prelude.{if◌then◌else◌}
use Prim.Native.Nat.{ℕ, ◌≤◌}
use mathlib.Core.List.{List, ◌∷◌, []}
use mathlib.Core.Path.{◌≡◌, refl}
use mathlib.Core.Bool.{Bool, true, false, ◌&&◌, ◌||◌}
use lib.Dec.{T, leb, leb→le}
use borrow.Author.Tests.{leb-true}
use Rattle.words.proofs.Tests.{T-both as both}
use Rattle.codes.specs.Table.{Row, row, rows, row_in, row_of, none}
use Rattle.codes.specs.declared.Undo.{Undo}
use Rattle.codes.specs.declared.Meaning.{Meaning}
use Rattle.codes.specs.declared.Meaning.TheVariants.{Does, End, Undefined}

-- the test holds of each row, and of the row that stands for no byte
abbrev all : (Row → Bool) → List Row → Bool
all p [] = p (row 0xFF 1 none (λ v. Undefined))
all p (r ∷ rs) = p r && all p rs

in_all : (p : Row → Bool) (rs : List Row) (b : ℕ) → T (all p rs) → T (p (row_in rs b))
unfolding row_in
in_all p [] b t = t
in_all p (r ∷ rs) b t = go (leb b r.last) (both (p r) (all p rs) t).0 (in_all p rs b (both (p r) (all p rs) t).1)
  where
    go : (x : Bool) → T (p r) → T (p (row_in rs b)) → T (p (if x then r else row_in rs b))
    go true here there = here
    go false here there = there

-- one computed test over the table
abbrev few : Row → Bool
few r = leb 1 r.bytes && leb r.bytes 4 && leb r.size.0 2

pub record Few (r : Row) : Type 0 where
  pub some : 1 ≤ r.bytes
  pub most : r.bytes ≤ 4
  pub small : r.size.0 ≤ 2

few-rows : (b : ℕ) → T (few (row_of b))
unfolding rows
few-rows b = in_all few rows b tt

pub row-few : (b : ℕ) → Few (row_of b)
row-few b =
    let r = row_of b in
    let w = both (leb 1 r.bytes && leb r.bytes 4) (leb r.size.0 2) (few-rows b) in
    let v = both (leb 1 r.bytes) (leb r.bytes 4) w.0 in
    record { some = leb→le _ _ v.0; most = leb→le _ _ v.1; small = leb→le _ _ w.1 }

-- one more: a row without an instruction undoes nothing
abbrev idle : Meaning → Bool
idle (Does u) = false
idle End = true
idle Undefined = true

sized_rows : (b v : ℕ) → T (leb 1 (row_of b).size.0 || idle ((row_of b).means v))
unfolding rows
sized_rows b v = in_all (λ r. leb 1 r.size.0 || idle (r.means v)) rows b tt

pub row_sized : (b v : ℕ) (u : Undo) → (row_of b).means v ≡ Does u → 1 ≤ (row_of b).size.0
row_sized b v u e = go (leb 1 (row_of b).size.0) refl (rw e at (sized_rows b v))
  where
    go : (t : Bool) → leb 1 (row_of b).size.0 ≡ t → T (t || false) → 1 ≤ (row_of b).size.0
    go true p h = leb-true _ _ p
    go false p h = absurd h
