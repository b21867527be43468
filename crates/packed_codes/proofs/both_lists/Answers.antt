-- Both lists, written on a blank of 16 bytes that they do not outgrow. Assumes nothing.
use Rattle.packed_codes.proofs.Written.{second-longer, codes-written}
use Rattle.packed_codes.proofs.both_lists.Goals as goal

pub overflow_sub-result : goal.overflow_sub-result
overflow_sub-result c = second-longer _ _ _ c.first_list.ensures c.second_list.ensures

pub returns : goal.returns
returns c = codes-written _ _ _ c.first_list.ensures c.second_list.ensures
