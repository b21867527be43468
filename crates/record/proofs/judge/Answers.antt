-- What was read is refused as its shape is. Assumes nothing.
use Rattle.std.proofs.Common.{Err}
use mathlib.Core.Path.{◌≡◌, sym, ap, ◌∙◌}
use native.Mathlib.Omega.{arith}
use Rattle.words.specs.Answer.{verdict}
use Rattle.record.proofs.Shapes.{read_told}
use Rattle.record.proofs.judge.Goals as goal

pub returns-in_err-read : goal.returns-in_err-read
returns-in_err-read c =
    let a = c.args in
    let stays : c.from_residual.result ≡ Err c.in_err-read.field-0.0 = grind arith in
    stays ∙ ap verdict (sym c.in_err-read.was ∙ c.read.ensures) ∙ read_told a.rva a.xdata.now a.word

pub returns : goal.returns
returns c =
    let a = c.args in
    ap verdict (sym c.in_ok-read.was ∙ c.read.ensures) ∙ read_told a.rva a.xdata.now a.word
