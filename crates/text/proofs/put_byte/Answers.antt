-- A store past the end is none, so both ways leave what `overlay` says.
-- Assumes nothing.
use Prim.Native.Nat.{◌+◌}
use mathlib.Core.Path.{◌≡◌, sym, ◌∙◌}
use lib.ListN.{set}
use lib.Seq.{set_out}
use native.Mathlib.Omega.{arith}
use Rattle.text.proofs.Overlaid.{one, laid-length}
use Rattle.text.proofs.put_byte.Goals as goal
use Rattle.text.proofs.put_byte.Goals.{Joined-at-out, then-at-out, else-at-out}

-- past the end a store is none
stored : (c : Joined-at-out) → c.if-at-out.out ≡ set c.args.out.now c.args.at c.args.b
stored c = elim c.if-at-out.branch [ then-at-out w ↦ w.out-is | else-at-out w ↦ w.out-is ∙ sym (set_out _ _ _ w.if-at-out.false) ]

pub returns-then-at-lt18446744073709551615 : goal.returns-then-at-lt18446744073709551615
returns-then-at-lt18446744073709551615 c = let a = c.args in one a.out.now c.if-at-out.out a.at (a.at + 1) a.b (omega arith) (stored c.before) (omega arith)

pub returns-else-at-lt18446744073709551615 : goal.returns-else-at-lt18446744073709551615
returns-else-at-lt18446744073709551615 c = let a = c.args in one a.out.now c.if-at-out.out a.at a.at a.b (omega arith) (stored c.before) (omega arith)

pub shape_of-out-then-at-lt18446744073709551615 : goal.shape_of-out-then-at-lt18446744073709551615
shape_of-out-then-at-lt18446744073709551615 c = laid-length (returns-then-at-lt18446744073709551615 c)

pub shape_of-out-else-at-lt18446744073709551615 : goal.shape_of-out-else-at-lt18446744073709551615
shape_of-out-else-at-lt18446744073709551615 c = laid-length (returns-else-at-lt18446744073709551615 c)
