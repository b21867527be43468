-- The loop's invariant: the lines of the registers below `i` are laid.
-- Assumes nothing.
use Prim.Native.Nat.{◌+◌}
use mathlib.Core.Path.{◌≡◌}
use mathlib.Core.List.{◌++◌}
use lib.ListN.{get_or}
use native.Mathlib.Numerals.{add-one}
use native.Mathlib.Omega.{arith}
use Rattle.text.specs.Text.{text, decimal, hex16, numbered}
use Rattle.caller_text.specs.CallerText.{d_line}
use Rattle.text.proofs.Overlaid.{none, joined, laid_as}
use Rattle.text.proofs.Numbers.{numbered-last}
use Rattle.caller_text.proofs.Lines.{line-is}
use Rattle.caller_text.proofs.put_doubles.Goals as goal

pub loop-i-init : goal.loop-i-init
unfolding numbered
loop-i-init c = none _ _ (omega arith) (omega arith)

pub loop-i-preserved : goal.loop-i-preserved
loop-i-preserved c =
    let a = c.args in
    let i = c.loop-i.i in
    let z : i ≡ 0 + i = omega arith in
    let line = laid_as (line-is (text "d" ++ decimal i) (hex16 (get_or a.d i 0))) (joined c.put_count-next.ensures c.put_double-next.ensures) in
    rw (add-one, numbered-last (d_line a.d) 0 i, ← z) (joined c.loop-i.invariant line)
