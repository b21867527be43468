-- The unwind codes, row by row as in RULES 3.2. A row is for the first bytes after the row before it, up to its own last one; each of F5 to
-- FF has a row of its own.
use Rattle.std.specs.Prelude.{ℕ, ◌+◌, ◌-◌, ◌*◌, ◌^◌, List, [], ◌∷◌, ◌&&◌, ◌||◌, leb, eqb, if◌then◌else◌}
use Rattle.words.specs.declared.Halfwords.{Halfwords}
use Rattle.words.specs.Units.{halfwords, stack_words}
use Rattle.words.specs.Bits.{bits}
use Rattle.codes.specs.declared.Undo.TheVariants.{Up, Pop, SpFrom, Vpop, LoadLr, Nothing}
use Rattle.codes.specs.declared.Meaning.{Meaning}
use Rattle.codes.specs.declared.Meaning.TheVariants.{Does, End, Undefined}

-- instruction sizes
abbrev pub none : Halfwords
none = halfwords 0

abbrev pub bits16 : Halfwords
bits16 = halfwords 1

abbrev pub bits32 : Halfwords
bits32 = halfwords 2

-- lists of registers: ra to rb; LR if the bit is set
abbrev pub range : ℕ → ℕ → ℕ
range a b = 2 ^ (b + 1) - 2 ^ a

-- r4 to rX, for X from 4 to 11
abbrev pub from_r4 : ℕ → ℕ
from_r4 x = if leb 4 x && leb x 11 then range 4 x else 0

abbrev pub lr_if : ℕ → ℕ
lr_if b = b * 2 ^ 14

-- a row: the last first byte that it is for, the code's bytes, its instruction's size, and the meaning of the code's value, which is
-- its bytes as one number, the first byte highest (RULES 3.1)
pub record Row : Type 0 where
  pub last : ℕ
  pub bytes : ℕ
  pub size : Halfwords
  pub means : ℕ → Meaning

abbrev pub row : ℕ → ℕ → Halfwords → (ℕ → Meaning) → Row
row l n z m = record { last = l; bytes = n; size = z; means = m }

unfoldable pub rows : List Row
rows =
    row 0x7F 1 bits16 (λ v. Does (Up (stack_words (bits 0 7 v))))
    ∷ row 0xBF 2 bits32 (λ v. Does (Pop (bits 0 13 v + lr_if (bits 13 1 v))))
    ∷ row 0xCF 1 bits16 (λ v. if eqb (bits 0 4 v) 13 || eqb (bits 0 4 v) 15 then Undefined else Does (SpFrom (bits 0 4 v)))
    ∷ row 0xD7 1 bits16 (λ v. Does (Pop (range 4 (4 + bits 0 2 v) + lr_if (bits 2 1 v))))
    ∷ row 0xDF 1 bits32 (λ v. Does (Pop (range 4 (8 + bits 0 2 v) + lr_if (bits 2 1 v))))
    ∷ row 0xE7 1 bits32 (λ v. Does (Vpop 8 (8 + bits 0 3 v)))
    ∷ row 0xEB 2 bits32 (λ v. Does (Up (stack_words (bits 0 10 v))))
    ∷ row 0xED 2 bits16 (λ v. Does (Pop (bits 0 8 v + lr_if (bits 8 1 v))))
    ∷ row 0xEE 1 none (λ v. Undefined)
    ∷ row 0xEF 2 bits32 (λ v. if eqb (bits 4 4 v) 0 then Does (LoadLr (stack_words (bits 0 4 v))) else Undefined)
    ∷ row 0xF4 1 none (λ v. Undefined)
    ∷ row 0xF5 2 bits32 (λ v. if leb (bits 4 4 v) (bits 0 4 v) then Does (Vpop (bits 4 4 v) (bits 0 4 v)) else Undefined)
    ∷ row 0xF6 2 bits32 (λ v. if leb (bits 4 4 v) (bits 0 4 v) then Does (Vpop (16 + bits 4 4 v) (16 + bits 0 4 v)) else Undefined)
    ∷ row 0xF7 3 bits16 (λ v. Does (Up (stack_words (bits 0 16 v))))
    ∷ row 0xF8 4 bits16 (λ v. Does (Up (stack_words (bits 0 24 v))))
    ∷ row 0xF9 3 bits32 (λ v. Does (Up (stack_words (bits 0 16 v))))
    ∷ row 0xFA 4 bits32 (λ v. Does (Up (stack_words (bits 0 24 v))))
    ∷ row 0xFB 1 bits16 (λ v. Does Nothing)
    ∷ row 0xFC 1 bits32 (λ v. Does Nothing)
    ∷ row 0xFD 1 bits16 (λ v. End)
    ∷ row 0xFE 1 bits32 (λ v. End)
    ∷ row 0xFF 1 none (λ v. End)
    ∷ []

-- the first row whose last byte is not below b
unfoldable pub row_in : List Row → ℕ → Row
row_in [] b = row 0xFF 1 none (λ v. Undefined)
row_in (r ∷ rs) b = if leb b r.last then r else row_in rs b

abbrev pub row_of : ℕ → Row
row_of b = row_in rows b
