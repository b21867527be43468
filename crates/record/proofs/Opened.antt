-- To unfold `opened` is to unfold every definition of this crate and of those below it: for examples that compute.
use Rattle.codes.proofs.Opened as Below
use Rattle.pdata.specs.Pdata.{entries_from, last_up_to, find, find_rva}
use Rattle.packed.specs.Packed.{write_word}
use Rattle.packed_codes.specs.PackedCodes.{up_to, first_list, second_list, write_codes}
use Rattle.xdata.specs.Xdata.{long_head, head_at, xdata_size}
use Rattle.xdata.specs.Scopes.{scopes_at}
use Rattle.record.specs.Record.{full_shape, packed_shape}
use Rattle.record.specs.AsCoded.Plan.{scopes_from, full_plan, packed_plan}
use Rattle.xdata.specs.AsCoded.Scopes.{res_zero}

unfoldable pub opened : Unit {0}
unfolding Below.opened entries_from last_up_to find find_rva write_word up_to first_list second_list write_codes long_head head_at xdata_size scopes_at full_shape packed_shape scopes_from res_zero full_plan packed_plan
opened = tt
