-- Each return is a need of the definition that failed, or the parts where none did; a law says what each comes to.
-- Assumes nothing.
use mathlib.Core.Path.{◌≡◌, sym, ◌∙◌}
use mathlib.Core.Bool.{true}
use lib.ListN.{length, take}
use native.Mathlib.Omega.{arith}
use Rattle.lent.specs.Parts.{same}
use Rattle.fit_file.specs.FitFile.{mark, end_at}
use Rattle.fit_file.proofs.Reading.{too_short, too_long, not-marked, not-whole, fit, refused-is, given-is}
use Rattle.fit_file.proofs.read_fit.Goals as goal
use Rattle.fit_file.proofs.read_fit.Goals.{then-file-lt-HEAD_BYTES-via-then-file-lt-HEAD_BYTES, then-file-lt-HEAD_BYTES-via-else-file-lt-HEAD_BYTES+then-file-gt-FIT_BYTES, then-file-lt-HEAD_BYTES-via-else-file-lt-HEAD_BYTES+else-file-gt-FIT_BYTES+then-not-marked}

pub returns-then-file-lt-HEAD_BYTES-clause-value : goal.returns-then-file-lt-HEAD_BYTES-clause-value
returns-then-file-lt-HEAD_BYTES-clause-value c =
    let s = c.args.file.now in
    refused-is s (elim c.then-file-lt-HEAD_BYTES.branch [
      | then-file-lt-HEAD_BYTES-via-then-file-lt-HEAD_BYTES w ↦ too_short s (omega arith)
      | then-file-lt-HEAD_BYTES-via-else-file-lt-HEAD_BYTES+then-file-gt-FIT_BYTES w ↦ too_long s (omega arith) (omega arith)
      | then-file-lt-HEAD_BYTES-via-else-file-lt-HEAD_BYTES+else-file-gt-FIT_BYTES+then-not-marked w ↦ not-marked s (omega arith) (omega arith) (sym w.marked.ensures ∙ w.if-not-marked.true)
    ])

pub returns-then-end-file-clause-value : goal.returns-then-end-file-clause-value
returns-then-end-file-clause-value c =
    let s = c.args.file.now in
    let m : same (take 8 s) mark ≡ true = sym c.marked.ensures ∙ c.if-not-marked.false in
    refused-is s (not-whole s (omega arith) (omega arith) m (λ e. omega (arith, e, c.if-end-file.true, c.word32.ensures, c.word32-2.ensures)))

pub returns-clause-value : goal.returns-clause-value
returns-clause-value c =
    let s = c.args.file.now in
    let m : same (take 8 s) mark ≡ true = sym c.marked.ensures ∙ c.if-not-marked.false in
    let l : length s ≡ end_at s = omega (arith, c.if-file-lt-HEAD_BYTES.false, c.word32.ensures, c.word32-2.ensures) in
    simp (c.word32.ensures, c.word32-2.ensures, c.word32-3.ensures, c.word32-4.ensures) (given-is s (fit s (omega arith) (omega arith) m l))
