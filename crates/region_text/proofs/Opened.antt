-- To unfold `opened` is to unfold every definition of this crate and of those that it stands on: for examples that compute.
use Rattle.text.proofs.Opened as Text
use Rattle.xdata.specs.Xdata.{long_head, head_at, xdata_size}
use Rattle.regions.specs.Region.{regions_from, clear, sound}
use Rattle.regions.specs.Table as Table
use Rattle.nesting.specs.Outline.{placed, in_order, front, behind, nest}
use Rattle.region_text.specs.RegionText.{outline_text, regions_text}

unfoldable pub opened : Unit {0}
unfolding Text.opened long_head head_at xdata_size regions_from clear sound Table.regions_of placed in_order front behind nest outline_text regions_text
opened = tt
