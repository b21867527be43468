-- The rows of RULES 3.2 as the one constant table has them (RULES 3.3): by first byte a number with the code's bytes, its instruction's
-- size and its sort. That an entry says what its row does are laws (`entry-bytes`, `entry-size` and `by_kind`, `by-second` of
-- proofs/Sorts.antt).
use Rattle.std.specs.Prelude.{ℕ, zero, suc, ◌+◌, ◌*◌, List, [], ◌∷◌, ◌||◌, eqb, if◌then◌else◌}
use Rattle.codes.specs.Table.{row_of}
use Rattle.codes.specs.declared.Meaning.{Meaning}
use Rattle.codes.specs.declared.Meaning.TheVariants.{Does, End, Undefined}

-- a code, an end code, no code
abbrev pub kind : Meaning → ℕ
kind (Does u) = 0
kind End = 1
kind Undefined = 2

-- the sort of a first byte: its kind, where the bytes that follow do not change it; else which test the second byte must pass, 3 for EF
-- and 4 for F5 and F6
abbrev pub sort_of : (first : ℕ) → ℕ
sort_of b = if eqb b 0xEF then 3 else if eqb b 0xF5 || eqb b 0xF6 then 4 else kind ((row_of b).means b)

abbrev pub entry_of : (first : ℕ) → ℕ
entry_of b = (row_of b).bytes + 8 * (row_of b).size.0 + 32 * sort_of b

-- g at i and the n - 1 numbers after it
module _ {A : Type 0} where
  abbrev pub tab : (ℕ → A) → ℕ → ℕ → List A
  tab g i zero = []
  tab g i (suc n) = g i ∷ tab g (suc i) n

unfoldable pub row_numbers : List ℕ
row_numbers = tab entry_of 0 256
