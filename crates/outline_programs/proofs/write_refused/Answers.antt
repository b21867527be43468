-- A refusal's line is short, and the buffer keeps its length.
-- Assumes nothing.
use lib.ListN.{length-take, length-append}
use native.Mathlib.Omega.{arith}
use Rattle.text.specs.Text.{text}
use Rattle.text.proofs.Overlaid.{laid-length}
use Rattle.listing.specs.Listing.{refused_text}
use Rattle.listing.proofs.Sizes.{refused-length}
use Rattle.outline_programs.proofs.write_refused.Goals as goal

pub slice_bounds-put-end : goal.slice_bounds-put-end
slice_bounds-put-end g c =
    let w = c.put_refusal-n.ensures in
    let why = c.args.why in
    omega (arith, w.place, length-append (refused_text why) (text "\n"), refused-length why, laid-length w, c.requires)

pub slice_bounds-put-end-2 : goal.slice_bounds-put-end-2
slice_bounds-put-end-2 g c =
    let n = c.put_refusal-n in
    let w = n.ensures in
    let why = c.args.why in
    omega (arith, w.place, length-append (refused_text why) (text "\n"), refused-length why, laid-length w, c.requires, length-take n.result n.new.out)
