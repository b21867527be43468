-- The code words, as bytes, behind the codes' offset. Assumes nothing.
use mathlib.Core.Path.{ap}
use native.Mathlib.Omega.{arith}
use Rattle.xdata.proofs.handler_offset.Goals as goal

pub overflow_add-result : goal.overflow_add-result
overflow_add-result c = record { fits = omega (arith, ap (λ x. x.0) c.code_word_bytes-codes.ensures, c.codes_offset.ensures) }

pub returns : goal.returns
returns c = omega (arith, ap (λ x. x.0) c.code_word_bytes-codes.ensures, c.codes_offset.ensures)
