-- The loop's invariant: the whole table ascends exactly if the records from the one before i on do, and the last word is that record's. One
-- record, or none, ascends.
-- Assumes nothing.
use Prim.Native.Nat.{◌-◌, ◌*◌}
use mathlib.Core.Path.{◌≡◌}
use Rattle.lent.specs.Little.{word32}
use Rattle.unwinding.specs.View.{ascending as ascending_of}
use Rattle.pdata.specs.Pdata.{starts}
use Rattle.pdata.proofs.Finding.{ascending_from}
use Rattle.pdata.proofs.ascending.Given as goal

abbrev pub invariant-loop-i : goal.invariant-loop-i
invariant-loop-i l = (ascending_of (starts l.pdata) ≡ ascending_from l.pdata (l.i - 1) l.n) × (l.last ≡ word32 l.pdata (8 * (l.i - 1)))
