-- Codes in code bytes: one code, and the list from an index on up to an end code, or refusal 6 (RULES 3.5).
use Rattle.std.specs.Prelude.{ℕ, ◌+◌, ◌*◌, List, [], ◌∷◌, length, take, drop, leb, if◌then◌else◌}
use Rattle.words.specs.declared.CodeBytes.{CodeBytes}
use Rattle.words.specs.Units.{code_bytes, halfword_bytes}
use Rattle.words.specs.Answer.{Res}
use Rattle.unwinding.specs.CodeList.{Codes}
use Rattle.unwinding.specs.Taking as General
use Rattle.unwinding.specs.Taking.{Taken as AnyTaken, one, last, bad, Scan}
use Rattle.codes.specs.Table.{Row, row_of}
use Rattle.codes.specs.declared.Code.{Code}
use Rattle.codes.specs.declared.Meaning.{Meaning}
use Rattle.codes.specs.declared.Meaning.TheVariants.{Does, End, Undefined}
use Rattle.codes.specs.declared.Taken.{Taken}
use Rattle.codes.specs.declared.Taken.TheVariants.{One, Last, Bad}

-- the size of a code's instruction, in bytes
abbrev pub size : Code → ℕ
size c = halfword_bytes c.size

-- the size of a code's instruction, in halfwords
abbrev pub halves : Code → ℕ
halves c = c.size.0

-- bytes as one number, the first highest (RULES 3.1)
unfoldable pub value : List ℕ → ℕ → ℕ
value [] v = v
value (b ∷ s) v = value s (256 * v + b)

-- what a code of a row's size and bytes is, at an index, by its meaning
abbrev pub taken : (at : ℕ) → Row → Meaning → Taken Code
taken at r (Does u) = One (record { undo = u; size = r.size }) (code_bytes (at + r.bytes))
taken at r End = Last r.size
taken at r Undefined = Bad (code_bytes at)

-- the code at the front of the bytes that are left, the first of which has index `at`. Refusal 6 holds the number of RULES 3.8: where an
-- undefined code begins, or how many bytes there are if a code lacks some
unfoldable pub take_from : (at : ℕ) → (left : List ℕ) → Taken Code
take_from at [] = Bad (code_bytes at)
take_from at (b ∷ s) =
    let r = row_of b in
    if leb r.bytes (length (b ∷ s))
    then taken at r (r.means (value (take r.bytes (b ∷ s)) 0))
    else Bad (code_bytes (at + length (b ∷ s)))

abbrev pub take_at : List ℕ → CodeBytes → Taken Code
take_at s i = take_from i.0 (drop i.0 s)

-- the same on any machine's terms: an end code's size in bytes
abbrev pub seen : Taken Code → AnyTaken Code
seen (One c next) = one c next
seen (Last n) = last (halfword_bytes n)
seen (Bad i) = bad i

abbrev pub taking : (at : ℕ) → (left : List ℕ) → AnyTaken Code
taking at left = seen (take_from at left)

abbrev pub bytes_of : (first : ℕ) → ℕ
bytes_of b = (row_of b).bytes

-- the code list from an index on
abbrev pub scan : List ℕ → CodeBytes → Scan Code
scan s i = General.scan taking bytes_of s i

abbrev pub codes_at : List ℕ → CodeBytes → Res (Codes Code)
codes_at s i = General.codes_at taking bytes_of s i
