-- The pass over the codes gives their size in halfwords, which is small since a record has few code bytes.
-- Assumes nothing.
use mathlib.Core.Path.{sym}
use native.Mathlib.Omega.{arith}
use Rattle.reader.proofs.Sizes.{scanned-ends}
use Rattle.place.proofs.Looking.{measured-ends}
use Rattle.place.proofs.layout.measure.Goals as goal

pub overflow_add-found : goal.overflow_add-found
overflow_add-found c =
    let a = c.args in
    omega (arith, (scanned-ends a.codes.now a.index _ (sym c.in_ok-found.ensures)).few, c.requires)

pub bytes_of-requires : goal.bytes_of-requires
bytes_of-requires c =
    let a = c.args in
    omega (arith, (scanned-ends a.codes.now a.index _ (sym c.in_ok-found.ensures)).few, c.requires)

pub returns : goal.returns
returns c =
    let a = c.args in
    let q = sym c.in_ok-found.ensures in
    (sym (measured-ends a.codes.now a.index _ _ q c.bytes_of.ensures), omega (arith, (scanned-ends a.codes.now a.index _ q).few, c.requires, c.bytes_of.ensures))
