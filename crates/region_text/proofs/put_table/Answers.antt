-- The first places of the array hold the order of the table's regions, and the outermost list of that order is the whole outline.
-- Assumes nothing.
use Prim.Native.Nat.{ℕ}
use mathlib.Core.Path.{ap, ◌∙◌}
use mathlib.Core.List.{List}
use lib.ListN.{length, drop, replicate}
use lib.Seq.{length-take-le, take_at}
use native.Mathlib.Omega.{arith}
use Rattle.nesting.specs.AsCoded.Order.{order_from}
use Rattle.nesting.proofs.Orders.{order-length}
use Rattle.text.proofs.Overlaid.{laid_as}
use Rattle.region_text.proofs.Parts.{whole}
use Rattle.region_text.proofs.put_table.Goals as goal

-- the array before anything is put in it
abbrev zeros : List ℕ
zeros = replicate 64 0

pub returns : goal.returns
returns c =
    let a = c.args in
    let n = a.count in
    -- what `order` leaves in the first places of the array
    let ordered = c.order.ensures ∙ ap (order_from a.xdata.now a.first 0) (length-take-le n zeros (omega arith)) in
    -- those places, lent again
    let again = take_at c.order.new.list (drop n zeros) n (ap length ordered ∙ order-length a.xdata.now a.first 0 n) in
    laid_as (whole a.xdata.now _ a.first n a.rva (again ∙ ordered)) c.put_list-p.ensures.text
