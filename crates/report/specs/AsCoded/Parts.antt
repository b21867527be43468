-- What reading a report gives: where its parts lie, and what its words say. That they are the report is a law (`parts-report` of
-- proofs/Reading.antt). A part is the file's bytes from where it starts to where the
-- next one does.
use Rattle.std.specs.Prelude.{ℕ, ◌≤◌, List, length, Ok}
use Rattle.words.specs.Answer.{Res, ◌>>=◌}
use Rattle.lent.specs.Parts.{between}
use Rattle.frame.specs.Frame.{Inputs, inputs}
use Rattle.report.specs.declared.Parts.{Parts}
use Rattle.report.specs.Report.{Report, report, regs_of, head_bytes, image_of, rva_of, base_of, xdata_at, stack_at, end_at}

-- the inputs and the report that parts are of
abbrev pub inputs_in : List ℕ → Parts → Inputs
inputs_in s p =
    inputs p.image (between s p.pdata p.xdata) p.rva (between s p.xdata p.stack) p.base (between s p.stack p.end)

abbrev pub report_in : List ℕ → Res Parts → Res Report
report_in s read = read >>= (λ p. Ok (record { inputs = inputs_in s p; regs = p.regs }))

-- the parts of a report whose lengths fit
abbrev pub parts_of : List ℕ → Parts
parts_of s =
    record { image = image_of s; rva = rva_of s; base = base_of s; regs = regs_of s; pdata = head_bytes; xdata = xdata_at s; stack = stack_at s; end = end_at s }

unfoldable pub parts : List ℕ → Res Parts
parts s = report s >>= (λ p. Ok (parts_of s))

-- each part lies in the file, one after the other
pub record Lie (s : List ℕ) (p : Parts) : Type 0 where
  pub first : p.pdata ≤ p.xdata
  pub second : p.xdata ≤ p.stack
  pub third : p.stack ≤ p.end
  pub whole : p.end ≤ length s
