-- What the contracts of `streams` cite: how many bytes came, and that they lie in the buffer (RULES 8.8 to 8.11).
-- Assumes nothing.
use Rattle.std.specs.Prelude.{ℕ, ◌≤◌, ◌<◌, true, ◌≡◌, List, length}
use Rattle.std.specs.Counts.{IsPrefixLen}
use Rattle.streams.specs.declared.Filled.{Filled}
use Rattle.streams.specs.declared.Item.{Item}
use Rattle.streams.specs.declared.Item.TheVariants.{Report, TooLong, Cut, End}

-- the bytes that came stand at the buffer's start; a reading that failed has not filled it
pub record Fills (f : Filled) (buffer : List ℕ) : Type 0 where
  pub within : IsPrefixLen f.count buffer
  pub short : f.failed ≡ true → f.count < length buffer

-- at most n bytes were passed over; fewer if a read failed
pub record Passes (f : Filled) (n : ℕ) : Type 0 where
  pub most : f.count ≤ n
  pub short : f.failed ≡ true → f.count < n

-- what follows a length of n: a report of n bytes, at the buffer's start; more than the buffer holds; or less than n bytes
abbrev pub Follows : Item → ℕ → List ℕ → Type 0
Follows (Report k) n buffer = (k ≡ n) × IsPrefixLen k buffer
Follows TooLong n buffer = length buffer < n
Follows (Cut b) n buffer = 0 < n
Follows (End b) n buffer = ⊥

-- a report stands at the buffer's start
abbrev pub Stands : Item → List ℕ → Type 0
Stands (Report k) buffer = IsPrefixLen k buffer
Stands TooLong buffer = Unit {0}
Stands (Cut b) buffer = Unit {0}
Stands (End b) buffer = Unit {0}
