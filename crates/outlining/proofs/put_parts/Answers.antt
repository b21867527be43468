-- The loop's invariant: the parts so far are laid, and the others are left (proofs/Laying.antt). A part more is of one frame more, or is the last.
-- Assumes nothing.
use native.Mathlib.Omega.{arith}
use Rattle.outlining.proofs.Laying.{laying-begins, laying-turn, laying-done}
use Rattle.outlining.proofs.put_parts.Goals as goal

pub loop-next-init : goal.loop-next-init
loop-next-init c = laying-begins _ _ _ c.requires (omega arith)

pub loop-next-preserved : goal.loop-next-preserved
loop-next-preserved c =
    let l = c.loop-next in
    let n = c.next_part-part in
    laying-turn _ _ _ l.s l.place _ l.invariant n.result n.new.out n.ensures c.in-Some.next c.in-Some.is

pub returns-in-None : goal.returns-in-None
returns-in-None c =
    let l = c.loop-next in
    let n = c.next_part-part in
    laying-done _ _ _ l.s l.place _ l.invariant n.result n.new.out n.ensures c.in-None.is
