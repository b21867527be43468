-- The text of a FIT file, one line (RULES 13.12), of these three kinds:
--
--   fits
--   refused 14
--   refused 17 at 00000004
use Rattle.std.specs.Prelude.{ℕ, List, ◌++◌, Ok, Err}
use Rattle.words.specs.Answer.{either}
use Rattle.text.specs.Text.{text, decimal, hex8}
use Rattle.fitting.specs.Fitting.{fit_number, Fitted, fitted}
use Rattle.fitting.specs.declared.FitRefusal.{FitRefusal}
use Rattle.fitting.specs.declared.FitRefusal.TheVariants.{Record, Short, Differs}
use Rattle.fit_file.specs.FitFile.{fit_file}

abbrev pub number_text : FitRefusal → List ℕ
number_text r = text "refused " ++ decimal (fit_number r)

-- 17 tells at which offset from the function's start
abbrev pub refusal_text : FitRefusal → List ℕ
refusal_text (Record r) = number_text (Record r)
refusal_text Short = number_text Short
refusal_text (Differs o) = number_text (Differs o) ++ text " at " ++ hex8 o

abbrev pub answer_text : Fitted → List ℕ
answer_text (Ok u) = text "fits"
answer_text (Err r) = refusal_text r

-- 14 before all others
unfoldable pub file_fitted : List ℕ → Fitted
file_fitted s = either (fit_file s) (λ r. Err (Record r)) (λ f. fitted f.xdata f.word f.code)

-- a file's bytes in, the text out
unfoldable pub fits_text : List ℕ → List ℕ
fits_text s = answer_text (file_fitted s) ++ text "\n"
