-- The registers below 32 are all.
-- Assumes nothing.
use mathlib.Core.Path.{◌≡◌}
use native.Mathlib.Omega.{arith}
use Rattle.report.proofs.Files.{words64-is}
use Rattle.report.proofs.doubles.Goals as goal

pub returns : goal.returns
returns c =
    let e : c.loop-i.i ≡ 32 = omega arith in
    words64-is c.args.file.now 96 32 c.loop-i.d c.loop-i.invariant.0 (λ k h. c.loop-i.invariant.1 k (omega arith))
