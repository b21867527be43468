-- Each return is a need of the definition that failed, or the parts where none did; a law says what each comes to.
-- Assumes nothing.
use mathlib.Core.Path.{◌≡◌, sym, ◌∙◌}
use mathlib.Core.Bool.{true}
use lib.ListN.{length, take}
use native.Mathlib.Omega.{arith}
use Rattle.lent.specs.Parts.{same}
use Rattle.report.specs.Report.{mark, end_at}
use Rattle.report.proofs.Reading.{too_short, too_long, not-marked, not-whole, fit, refused-is, given_is}
use Rattle.report.proofs.read_report.Goals as goal
use Rattle.report.proofs.read_report.Goals.{then-file-lt-HEAD_BYTES-via-then-file-lt-HEAD_BYTES, then-file-lt-HEAD_BYTES-via-else-file-lt-HEAD_BYTES+then-file-gt-REPORT_BYTES, then-file-lt-HEAD_BYTES-via-else-file-lt-HEAD_BYTES+else-file-gt-REPORT_BYTES+then-not-marked}

pub returns-then-file-lt-HEAD_BYTES-clause-value : goal.returns-then-file-lt-HEAD_BYTES-clause-value
returns-then-file-lt-HEAD_BYTES-clause-value c =
    elim c.then-file-lt-HEAD_BYTES.branch [
      | then-file-lt-HEAD_BYTES-via-then-file-lt-HEAD_BYTES w ↦ refused-is _ (too_short _ w.if-file-lt-HEAD_BYTES.true)
      | then-file-lt-HEAD_BYTES-via-else-file-lt-HEAD_BYTES+then-file-gt-REPORT_BYTES w ↦ refused-is _ (too_long _ w.if-file-gt-REPORT_BYTES.true)
      | then-file-lt-HEAD_BYTES-via-else-file-lt-HEAD_BYTES+else-file-gt-REPORT_BYTES+then-not-marked w ↦
          refused-is _ (not-marked _ (sym w.marked.ensures ∙ w.if-not-marked.true))
    ]

pub returns-then-end-file-clause-value : goal.returns-then-end-file-clause-value
returns-then-end-file-clause-value c =
    refused-is _ (not-whole c.args.file.now (λ e. omega (arith, e, c.if-end-file.true, c.word32.ensures, c.word32-2.ensures, c.word32-3.ensures)))

pub returns-clause-value : goal.returns-clause-value
returns-clause-value c =
    let m : same (take 8 c.args.file.now) mark ≡ true = sym c.marked.ensures ∙ c.if-not-marked.false in
    let l : length c.args.file.now ≡ end_at c.args.file.now = omega (arith, c.if-end-file.false, c.word32.ensures, c.word32-2.ensures, c.word32-3.ensures) in
    given_is c.args.file.now (fit c.args.file.now (omega arith) (omega arith) m l)
    (simp (c.word32.ensures, c.word32-2.ensures, c.word32-3.ensures, c.word32-4.ensures, c.word32-5.ensures, c.word32-6.ensures, c.registers.ensures))
