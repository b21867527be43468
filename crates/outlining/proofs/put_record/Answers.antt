-- A packed record has no regions, and so no text.
-- Assumes nothing.
use borrow.Author.Tests.{eq-eqb, ne_eqb}
use Rattle.region_text.proofs.Nothing.{no-regions}
use Rattle.outlining.proofs.put_record.Goals as goal

pub returns-then-bits-eq0 : goal.returns-then-bits-eq0
returns-then-bits-eq0 c =
    rw (← c.bits.ensures.0, eq-eqb _ 0 c.if-bits-eq0.true, ← c.rva_of.ensures) c.put_regions.ensures

pub returns : goal.returns
returns c =
    rw (← c.bits.ensures.0, ne_eqb _ 0 c.if-bits-eq0.false, no-regions) c.put_text.ensures
