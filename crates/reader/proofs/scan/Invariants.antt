-- `reader::scan` meets its contract. The loop's invariant: what is found from the reader's index on, with the halfwords before it, is what the
-- pass finds, and twice the index bounds the halfwords. The measure is how many code bytes are left.
-- Assumes nothing.
use Prim.Native.Nat.{◌-◌, ◌*◌, ◌≤◌}
use mathlib.Core.Path.{◌≡◌}
use lib.ListN.{length}
use Rattle.codes.specs.Code.{scan}
use Rattle.reader.specs.AsCoded.Reading.{scanned}
use Rattle.reader.proofs.Passing.{plus}
use Rattle.reader.proofs.scan.Given as goal

abbrev pub invariant-loop-n : goal.invariant-loop-n
invariant-loop-n l =
    (l.r.codes.now ≡ l.codes) × (plus l.list (scanned (scan l.codes l.r.at)) ≡ scanned (scan l.codes l.fn.at)) × (l.list ≤ 2 * l.r.at.0)

abbrev pub decreases-loop-n : goal.decreases-loop-n
decreases-loop-n l = length l.codes - l.r.at.0
