-- What reading a FIT file gives: its words, and where its parts lie. That they are the file's is a law (`parts-fit` of proofs/Reading.antt). A
-- part is the file's bytes from where it starts to where the next one does.
use Rattle.std.specs.Prelude.{ℕ, ◌≤◌, List, length, Ok}
use Rattle.words.specs.Answer.{Res, ◌>>=◌}
use Rattle.lent.specs.Lent.{lent}
use Rattle.lent.specs.Parts.{between}
use Rattle.fit_file.specs.declared.FitParts.{FitParts}
use Rattle.fit_file.specs.FitFile.{FitFile, fit_file, head_bytes, word_of, rva_of, code_at, end_at}

-- the file that parts are of
abbrev pub fit_in : List ℕ → FitParts → FitFile
fit_in s p = record { word = p.word; xdata = lent p.rva (between s p.xdata p.code); code = between s p.code p.end }

-- the parts of a file whose lengths fit
abbrev pub parts_of : List ℕ → FitParts
parts_of s = record { word = word_of s; rva = rva_of s; xdata = head_bytes; code = code_at s; end = end_at s }

unfoldable pub parts : List ℕ → Res FitParts
parts s = fit_file s >>= (λ f. Ok (parts_of s))

-- each part lies in the file, one after the other
pub record Lie (s : List ℕ) (p : FitParts) : Type 0 where
  pub first : p.xdata ≤ p.code
  pub second : p.code ≤ p.end
  pub whole : p.end ≤ length s
