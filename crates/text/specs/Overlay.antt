-- Text laid over a lent buffer (RULES 8.7).
use Rattle.std.specs.Prelude.{ℕ, ◌+◌, ◌-◌, ◌^◌, ◌<◌, min, ◌≡◌, List, [], ◌∷◌, length, set}

-- the bytes of a text at a place of a buffer and the places after it. Those that fall past its end are left out; all else is kept
unfoldable pub overlay : (buffer : List ℕ) → (at : ℕ) → (text : List ℕ) → List ℕ
overlay b i [] = b
overlay b i (c ∷ t) = overlay (set b i c) (i + 1) t

-- what each writer says: the place after the text, whether or not it fitted (no place is past the largest number of 64 bits); the
-- buffer as it is left; and that a buffer is no longer than places go
pub record Laid (buffer : List ℕ) (at : ℕ) (text : List ℕ) (next : ℕ) (left : List ℕ) : Type 0 where
  pub place : next ≡ min (at + length text) (2 ^ 64 - 1)
  pub bytes : left ≡ overlay buffer at text
  pub room : length buffer < 2 ^ 64
