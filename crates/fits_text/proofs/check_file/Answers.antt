-- The parts that were read are the file's, and a refusal is the file's.
-- Assumes nothing.
use Rattle.std.proofs.lemmas.Result.{err_from_is_err_and}
use mathlib.Core.Path.{sym, ◌∙◌}
use Rattle.fit_file.proofs.Reading.{read-given, read-refused}
use Rattle.fits_text.proofs.Answered.{fitted-given, fitted-refused}
use Rattle.fits_text.proofs.check_file.Goals as goal

pub returns-in_err-read_fit : goal.returns-in_err-read_fit
returns-in_err-read_fit c =
    let p = err_from_is_err_and c.from_residual.result c.from_residual.ensures.1 in
    rw (p.1, p.2) (fitted-refused _ (read-refused _ _ (sym c.read_fit.ensures.value ∙ c.in_err-read_fit.was)))

pub returns : goal.returns
returns c = c.check_parts.ensures ∙ fitted-given _ (read-given _ _ (sym c.read_fit.ensures.value ∙ c.in_ok-read_fit.was))
