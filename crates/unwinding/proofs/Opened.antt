-- To unfold `opened` is to unfold every definition of this crate: for examples that compute.
use Rattle.unwinding.specs.CodeList.{total, end_of, run}
use Rattle.unwinding.specs.Taking.{scan_from}
use Rattle.unwinding.specs.Skip.{skip_from}
use Rattle.unwinding.specs.View.{epilogues, view}
use Rattle.unwinding.specs.Todo.{left, in_epilogue, in_epilogues, todo}

unfoldable pub opened : Unit {0}
unfolding total end_of run scan_from skip_from epilogues view left in_epilogue in_epilogues todo
opened = tt
