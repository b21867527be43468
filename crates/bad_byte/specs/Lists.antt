-- Code bytes from which no list can be read, and the code byte that refusal 6 then tells (RULES 3.8): said by what stands there, without any
-- way of reading.
use Rattle.std.specs.Prelude.{ℕ, ◌+◌, ◌≤◌, ◌<◌, ◌≡◌, List, ◌∷◌, length, take, drop}
use Rattle.codes.specs.Table.{row_of}
use Rattle.codes.specs.Code.{value}
use Rattle.codes.specs.declared.Meaning.{Meaning}
use Rattle.codes.specs.declared.Meaning.TheVariants.{Does, End, Undefined}
use Rattle.codes.specs.declared.Undo.{Undo}

-- a code begins at an index: its first byte, and all that follows it
pub record Begins (s : List ℕ) (i : ℕ) : Type 0 where
  pub first : ℕ
  pub behind : List ℕ
  pub here : drop i s ≡ first ∷ behind

-- the bytes that its row asks for, and those that are left
abbrev pub asked : {s : List ℕ} {i : ℕ} → Begins s i → ℕ
asked b = (row_of b.first).bytes

abbrev pub left : {s : List ℕ} {i : ℕ} → Begins s i → ℕ
left b = length (b.first ∷ b.behind)

-- a code that has all its bytes, and what its row says of their value
pub record Whole (s : List ℕ) (i : ℕ) (m : Meaning) : Type 0 where
  pub code : Begins s i
  pub there : asked code ≤ left code
  pub means : (row_of code.first).means (value (take (asked code) (code.first ∷ code.behind)) 0) ≡ m

-- a code that lacks bytes
pub record CutShort (s : List ℕ) (i : ℕ) : Type 0 where
  pub code : Begins s i
  pub short : left code < asked code

-- from one index up to another there are codes, one behind the other, each of which undoes something
pub data Decodes (s : List ℕ) : (from to : ℕ) → Type 0 where
  none : (i : ℕ) → Decodes s i i
  one : (i k : ℕ) (u : Undo) (c : Whole s i (Does u)) → Decodes s (i + asked c.code) k → Decodes s i k

-- a list that can be read: codes up to an end code
pub record Reads (s : List ℕ) (i : ℕ) : Type 0 where
  pub at : ℕ
  pub before : Decodes s i at
  pub end : Whole s at End

-- an index at which no code can be taken, and the byte that the reading of one code tells
pub data BadCode (s : List ℕ) (i : ℕ) : (byte : ℕ) → Type 0 where
  past : length s ≤ i → BadCode s i i
  undefined : Whole s i Undefined → BadCode s i i
  cut : CutShort s i → BadCode s i (length s)

-- an index from which no list can be read, and the byte that is told: the index itself if it is past the bytes; else all codes decode up to
-- one that is undefined, which tells where it begins, or to one that is cut short, or to the end of the bytes, which tell how many they are
pub data Bad (s : List ℕ) (i : ℕ) : (byte : ℕ) → Type 0 where
  past : length s ≤ i → Bad s i i
  undefined : (k : ℕ) → Decodes s i k → Whole s k Undefined → Bad s i k
  cut : (k : ℕ) → Decodes s i k → CutShort s k → Bad s i (length s)
  endless : Decodes s i (length s) → Bad s i (length s)
