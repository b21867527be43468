-- A part fits the buffer; where the outline stands behind it, it can go on, with fewer frames left.
-- Assumes nothing.
use mathlib.Core.Path.{◌∙◌}
use lib.ListN.{length-take}
use native.Mathlib.Omega.{arith}
use Rattle.text.proofs.Overlaid.{laid-length}
use Rattle.outlining.proofs.Laying.{next-ready, part-less}
use Rattle.outline_programs.proofs.write_parts.Goals as goal

pub slice_bounds-put-end : goal.slice_bounds-put-end
slice_bounds-put-end g c =
    let w = c.next_part-part.ensures in
    omega (arith, w.laid.place, w.short, laid-length w.laid, c.loop-part.invariant.0, c.requires.0)

pub slice_bounds-put-end-in-loop-part : goal.slice_bounds-put-end-in-loop-part
slice_bounds-put-end-in-loop-part g c =
    let n = c.next_part-part in
    let w = n.ensures in
    omega (arith, w.laid.place, w.short, laid-length w.laid, c.loop-part.invariant.0, c.requires.0, length-take n.result.place n.new.out)

pub loop-part-smaller : goal.loop-part-smaller
loop-part-smaller g c =
    let l = c.loop-part in
    part-less _ l.a c.in-Some.next l.invariant.1 (rw c.in-Some.is at c.next_part-part.ensures.follows)

pub loop-part-preserved : goal.loop-part-preserved
loop-part-preserved g c =
    let l = c.loop-part in
    let w = c.next_part-part.ensures in
    (laid-length w.laid ∙ l.invariant.0, next-ready _ l.a c.in-Some.next l.invariant.1 (rw c.in-Some.is at w.follows))
