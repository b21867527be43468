-- No regions, no text.
-- Assumes nothing.
use Prim.Native.Nat.{ℕ}
use mathlib.Core.Path.{◌≡◌, refl}
use mathlib.Core.List.{[]}
use Rattle.regions.specs.Table.{listed}
use Rattle.nesting.specs.Outline.{in_order, nest}
use Rattle.region_text.specs.RegionText.{outline_text, regions_text}

pub no-regions : (a : ℕ) → regions_text a (listed []) ≡ []
unfolding regions_text outline_text in_order nest
no-regions a = refl
