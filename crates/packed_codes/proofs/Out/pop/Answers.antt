-- By the list, taken apart: nothing, or the code of its size. Assumes nothing.
use mathlib.Core.Bool.{◌&&◌}
use Rattle.words.specs.Bits.{bits}
use Rattle.packed_codes.specs.PackedCodes.{low}
use Rattle.packed_codes.proofs.Buffer.{nothing}
use Rattle.packed_codes.proofs.Pieces.{list-none}
use Rattle.packed_codes.proofs.Out.pop.Goals as goal

pub returns-then-list-eq0 : goal.returns-then-list-eq0
returns-then-list-eq0 c =
    let a = c.args in
    nothing _ (list-none a.list c.requires (a.narrow && low (bits 0 13 a.list)) c.if-list-eq0.true)
