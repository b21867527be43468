-- The FIT file: a mark and four words, then a function's .xdata and its code, which end with the file (RULES 13.11).
use Rattle.std.specs.Prelude.{ℕ, ◌+◌, ◌*◌, List, [], ◌∷◌, ◌&&◌, length, take, leb, eqb, Ok}
use Rattle.words.specs.declared.Refusal.TheVariants.{UnfitReport}
use Rattle.words.specs.Answer.{Res, ◌>>◌, need}
use Rattle.lent.specs.Little.{word32}
use Rattle.lent.specs.Lent.{Lent, lent}
use Rattle.lent.specs.Parts.{same, part}

-- word 1 of a .pdata record, the .xdata by its RVA, and the bytes of the function
pub record FitFile : Type 0 where
  pub word : ℕ
  pub xdata : Lent
  pub code : List ℕ

-- the letters FIT, the version, zeros
abbrev pub mark : List ℕ
mark = 0x46 ∷ 0x49 ∷ 0x54 ∷ 1 ∷ 0 ∷ 0 ∷ 0 ∷ 0 ∷ []

-- the bytes before the .xdata: the mark and four words
abbrev pub head_bytes : ℕ
head_bytes = 8 + 4 * 4

-- what the words say
abbrev pub word_of : List ℕ → ℕ
word_of s = word32 s 8

abbrev pub rva_of : List ℕ → ℕ
rva_of s = word32 s 12

abbrev pub xdata_size : List ℕ → ℕ
xdata_size s = word32 s 16

abbrev pub code_size : List ℕ → ℕ
code_size s = word32 s 20

-- where the code and the end stand
abbrev pub code_at : List ℕ → ℕ
code_at s = head_bytes + xdata_size s

abbrev pub end_at : List ℕ → ℕ
end_at s = code_at s + code_size s

-- the file whose lengths fit
abbrev pub fit_of : List ℕ → FitFile
fit_of s = record { word = word_of s; xdata = lent (rva_of s) (part s head_bytes (xdata_size s)); code = part s (code_at s) (code_size s) }

-- a FIT file, or 14
unfoldable pub fit_file : List ℕ → Res FitFile
fit_file s = do
  need (leb head_bytes (length s) && leb (length s) 1048576) UnfitReport
  need (same (take 8 s) mark) UnfitReport
  need (eqb (length s) (end_at s)) UnfitReport
  Ok (fit_of s)
