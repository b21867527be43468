-- A first byte's entry: the table is the computed one, as its type says.
-- Assumes nothing.
use mathlib.Core.Path.{◌≡◌, refl, ap, ◌∙◌}
use lib.ListN.{get_or}
use Rattle.codes.specs.AsCoded.Rows.{entry_of}
use Rattle.codes.proofs.Sorts.{entry_has}
use Rattle.codes.proofs.RowTable.of.Goals as goal

pub returns : goal.returns
returns c = let b = c.args.b in ap (λ t. get_or t b 0) c.self.invariant ∙ entry_has b c.ranges.b.fits (λ n. n ≡ entry_of b) refl
