-- A region prints its line and the list of its inner regions, and a list its first region and then the rest of itself.
-- Assumes nothing.
use Rattle.std.proofs.Common.{sym, ap, ◌∙◌, arith}
use Rattle.region_text.specs.AsCoded.Part.{in_list}
use Rattle.region_text.proofs.Parts.{put-end, put_other, put-more, put-inner}
use Rattle.region_text.proofs.+put_list_put_region.Goals as goal

pub put_list-returns-then-in_list : goal.put_list-returns-then-in_list
put_list-returns-then-in_list t c =
    let a = c.args in
    let tested = c.in_list.ensures ∙ ap (in_list a.top a.low a.high) c.read-r.ensures in
    put-more a.xdata.now a.order.now a.first a.k a.top a.low a.high a.level a.rva (omega arith) (sym tested ∙ c.if-in_list.true)
    c.put_region-p.ensures c.put_list.ensures

pub put_list-returns-else-in_list : goal.put_list-returns-else-in_list
put_list-returns-else-in_list t c =
    let a = c.args in
    let tested = c.in_list.ensures ∙ ap (in_list a.top a.low a.high) c.read-r.ensures in
    put_other a.xdata.now a.order.now a.first a.k a.top a.low a.high a.level a.rva a.out.now a.at (omega arith) (sym tested ∙ c.if-in_list.false)
    (omega arith) (omega arith)

pub put_list-returns-else-k-order : goal.put_list-returns-else-k-order
put_list-returns-else-k-order t c =
    let a = c.args in
    put-end a.xdata.now a.order.now a.first a.k a.top a.low a.high a.level a.rva a.out.now a.at (omega arith) (omega arith) (omega arith)

pub put_region-returns : goal.put_region-returns
put_region-returns t c =
    let a = c.args in
    put-inner a.xdata.now a.order.now a.first a.k a.level a.rva c.read-r.result c.read-r.ensures c.put_line-next.ensures c.put_list.ensures
