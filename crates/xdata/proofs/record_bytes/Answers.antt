-- By the test of X that the definition makes. Assumes nothing.
use Prim.Native.Nat.{◌+◌}
use mathlib.Core.Path.{◌≡◌, sym, ap, ◌∙◌}
use native.Mathlib.Omega.{arith}
use Rattle.xdata.specs.Xdata.{handler_offset}
use Rattle.words.proofs.Tests.{if-true, if-false}
use Rattle.xdata.proofs.record_bytes.Goals as goal

pub returns-then-has_handler : goal.returns-then-has_handler
returns-then-has_handler c =
    let h = c.args.h in
    ap (λ n. n + 4) c.handler_offset.ensures.0
    ∙ ap (λ n. handler_offset h + n) (if-true 4 0 (sym c.has_handler.ensures ∙ c.if-has_handler.true))

pub returns : goal.returns
returns c =
    let h = c.args.h in
    let z : handler_offset h ≡ handler_offset h + 0 = omega arith in
    c.handler_offset-2.ensures.0
    ∙ z
    ∙ ap (λ n. handler_offset h + n) (if-false 4 0 (sym c.has_handler.ensures ∙ c.if-has_handler.false))
