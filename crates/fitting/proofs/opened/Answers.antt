-- The pass from index 0 tells where the prologue ends. Assumes nothing.
use mathlib.Core.Path.{sym, ◌∙◌}
use native.Mathlib.Omega.{arith}
use Rattle.words.specs.Units.{code_bytes}
use Rattle.reader.proofs.Sizes.{scanned-ends}
use Rattle.fitting.proofs.Planned.{open-ends, open-refused, open-total}
use Rattle.fitting.proofs.opened.Goals as goal

pub bytes_of-requires : goal.bytes_of-requires
bytes_of-requires c = omega (arith, (scanned-ends c.args.codes.now (code_bytes 0) _ (sym c.in-Ok.ensures)).few, c.requires)

pub prologue-requires : goal.prologue-requires
prologue-requires c = c.bytes_of.ensures ∙ open-total _ _ (sym c.in-Ok.ensures)

pub returns-in-Ok : goal.returns-in-Ok
returns-in-Ok c = c.prologue.ensures ∙ open-ends _ _ _ c.if-fragment.false _ (sym c.in-Ok.ensures)

pub returns-in-Err : goal.returns-in-Err
returns-in-Err c = open-refused _ _ _ c.if-fragment.false _ (sym c.in-Err.ensures)
