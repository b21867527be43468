-- By the test of E that the definition makes. Assumes nothing.
use Prim.Native.Nat.{◌+◌}
use mathlib.Core.Path.{sym, ◌∙◌}
use Rattle.words.specs.Units.{code_bytes}
use Rattle.record.specs.declared.Scopes.TheVariants.{Ending, Listed}
use Rattle.words.proofs.Tests.{if-true, if-false}
use Rattle.record.proofs.scopes_of.Goals as goal

pub returns-then-has_last : goal.returns-then-has_last
returns-then-has_last c =
    let a = c.args in
    if-true (Ending (code_bytes a.h.count)) (Listed (a.offset + a.h.bytes)) (sym c.has_last.ensures ∙ c.if-has_last.true)

pub returns : goal.returns
returns c =
    let a = c.args in
    if-false (Ending (code_bytes a.h.count)) (Listed (a.offset + a.h.bytes)) (sym c.has_last.ensures ∙ c.if-has_last.false)
