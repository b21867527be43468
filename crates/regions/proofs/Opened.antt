-- To unfold `opened` is to unfold every definition of this crate and of those below it: for examples that compute.
use Rattle.xdata.specs.Xdata.{long_head, head_at, xdata_size}
use Rattle.regions.specs.Region.{regions_from, clear, sound}
use Rattle.regions.specs.Table.{regions_of}
use Rattle.regions.specs.AsCoded.Table.{table_of}

unfoldable pub opened : Unit {0}
unfolding long_head head_at xdata_size regions_from clear sound regions_of table_of
opened = tt
