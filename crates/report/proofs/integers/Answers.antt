-- The registers below 13 are all.
-- Assumes nothing.
use mathlib.Core.Path.{◌≡◌}
use native.Mathlib.Omega.{arith}
use Rattle.report.proofs.Files.{words32-is}
use Rattle.report.proofs.integers.Goals as goal

pub returns : goal.returns
returns c =
    let e : c.loop-i.i ≡ 13 = omega arith in
    words32-is c.args.file.now 32 13 c.loop-i.r c.loop-i.invariant.0 (λ k h. c.loop-i.invariant.1 k (omega arith))
