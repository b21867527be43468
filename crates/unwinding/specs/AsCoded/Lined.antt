-- Refusal 7 in one pass over stretches, from the lowest start up: each begins above the start before it (`floor`) and not before the end
-- of the last that is not empty (`reach`). That this is what `fits` asks, pair by pair, is a law (`fits-lined` of proofs/Lined.antt).
use Rattle.std.specs.Prelude.{ℕ, ◌+◌, List, [], ◌∷◌, Bool, true, ◌&&◌, ◌||◌, leb, if◌then◌else◌}
use Rattle.unwinding.specs.View.{Stretch}

abbrev pub empty : Stretch → Bool
empty a = leb a.to a.from

-- the end of the last stretch that is not empty
abbrev pub reach_of : (reach : ℕ) → Stretch → ℕ
reach_of r a = if empty a then r else a.to

-- a stretch stands in line: not before `floor`, inside the function, and, unless it is empty, not before `reach`
abbrev pub next : (span floor reach : ℕ) → Stretch → Bool
next span f r a = leb f a.from && leb a.to span && (empty a || leb r a.from)

abbrev pub lined : (span floor reach : ℕ) → List Stretch → Bool
lined span f r [] = true
lined span f r (a ∷ rest) = next span f r a && lined span (a.from + 1) (reach_of r a) rest
