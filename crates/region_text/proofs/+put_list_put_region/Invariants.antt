-- The measure is twice the number of regions left, and one more for a list, which falls from a list to its first region and from a region to
-- what comes behind it.
-- Assumes nothing.
use Rattle.std.proofs.Common.{◌+◌, ◌-◌, ◌*◌, length}
use Rattle.region_text.proofs.+put_list_put_region.Given as goal

abbrev pub decreases-put_list : goal.decreases-put_list
decreases-put_list l = 2 * (length l.order.now - l.k) + 1

abbrev pub decreases-put_region : goal.decreases-put_region
decreases-put_region l = 2 * (length l.order.now - l.k)
