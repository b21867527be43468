-- `codes::size_at` meets its contract: the tests before the code's sort are those of `take_at`.
-- Assumes nothing.
use mathlib.Core.Path.{sym, ap}
use native.Mathlib.Omega.{arith}
use Rattle.codes.specs.AsCoded.Sizing.{sized}
use Rattle.codes.proofs.Sorts.{entry-count}
use Rattle.codes.proofs.Taking.{take_past, take_short}
use Rattle.codes.proofs.size_at.Goals as goal

pub returns-then-codes-i : goal.returns-then-codes-i
returns-then-codes-i c = let a = c.args in ap sized (sym (take_past a.codes.now a.at.0 c.if-codes-i.true))

pub returns-then-codes-i-2 : goal.returns-then-codes-i-2
returns-then-codes-i-2 c =
    let a = c.args in
    let n = entry-count _ c.of-row.ensures in
    ap sized (sym (take_short a.codes.now a.at.0 (omega arith) (omega (arith, n, c.if-codes-i-2.true))))

pub size_as-requires : goal.size_as-requires
size_as-requires c = let e = c.of-row.ensures in (e, omega (arith, entry-count _ e))
