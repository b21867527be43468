-- Order 1 of document 02: the guarded regions beside each frame (RULES 2.14 to 2.16, 8.14 to 8.19), asked of any reader of regions.
use Rattle.std.specs.Prelude.{ℕ, ◌≤◌, ◌≡◌, ◌⊎◌, Bool, true, false, not, List, length}
use Rattle.words.specs.Refusals.{number}
use Rattle.lent.specs.Lent.{Lent}
use Rattle.unwinding.specs.Extent.{of_extent}
use Rattle.xdata.specs.Xdata.{fit_xdata}
use Rattle.regions.specs.declared.Region.{Region}
use Rattle.regions.specs.declared.RegionRefusal.{RegionRefusal}
use Rattle.regions.specs.declared.RegionRefusal.TheVariants.{Record, TableOutside, Crossed}
use Rattle.regions.specs.Table.{Listed, listed, denied, region_number, regions_of}
use Rattle.nesting.specs.Outline.{Outline, depth}
use Rattle.nesting.specs.Nested.{Nested}
use Rattle.region_text.specs.RegionText.{outline_text, refused_line, regions_text}
use Rattle.outlining.specs.Outlined as Whole
use Rattle.outlining.specs.Stripped.{stripped}
use Rattle.demands.specs.Reader.{ours}
use Rattle.demands.specs.Demand1.{More}

-- what a reader answers: the regions of an .xdata record; their text for an RVA; the outline of a report
pub record RegionReader : Type 0 where
  pub regions : (xdata : Lent) → (at : ℕ) → Listed
  pub lines : (xdata : Lent) → (at rva : ℕ) → List ℕ
  pub outline : (file : List ℕ) → List ℕ

abbrev pub ours_of_regions : RegionReader
ours_of_regions = record {
  regions = regions_of;
  lines = λ x at a. regions_text a (regions_of x at);
  outline = Whole.outlined;
}

-- an answer that does not say that something is not lent
abbrev pub lasting : Listed → Bool
lasting (listed rs) = true
lasting (denied (Record r)) = not (of_extent (number r))
lasting (denied TableOutside) = false
lasting (denied Crossed) = true

pub record Order1 (a : RegionReader) : Type 0 where
  -- the answers are those of the definitions; without this a reader that prints no region at all would do, for the laws below ask of its outline
  -- only what is left without regions
  pub told : (x : Lent) (at : ℕ) → a.regions x at ≡ ours_of_regions.regions x at
  pub drawn : (x : Lent) (at rva : ℕ) → a.lines x at rva ≡ ours_of_regions.lines x at rva
  pub outlined : (file : List ℕ) → a.outline file ≡ ours_of_regions.outline file
  -- the numbers of its refusals (RULES 9.58), and how many regions there can be
  pub numbered : (x : Lent) (at : ℕ) (r : RegionRefusal) → a.regions x at ≡ denied r → let k = region_number r in (k ≡ 1) ⊎ (k ≡ 4) ⊎ (k ≡ 5) ⊎ (k ≡ 15) ⊎ (k ≡ 16)
  pub few : (x : Lent) (at : ℕ) (rs : List Region) → a.regions x at ≡ listed rs → length rs ≤ 64
  -- only lent bytes are read (RULES 1.8): with more of them an answer stays, unless it was that something is not lent
  pub stays : (x x' : Lent) (at : ℕ) → More x x' → fit_xdata x' ≡ true → lasting (a.regions x at) ≡ true → a.regions x' at ≡ a.regions x at
  -- what is printed of regions is an outline of them as RULES 8.15 asks, and of a refused table one line (RULES 8.17)
  pub printed : (x : Lent) (at rva : ℕ) (rs : List Region) → a.regions x at ≡ listed rs → (o : Outline) × Nested rs o × (depth o ≤ 64) × (a.lines x at rva ≡ outline_text 1 rva o)
  pub refused : (x : Lent) (at rva : ℕ) (r : RegionRefusal) → a.regions x at ≡ denied r → a.lines x at rva ≡ refused_line r
  -- an outline without the lines of regions is the listing (RULES 8.17)
  pub listing : (file : List ℕ) → stripped (a.outline file) ≡ ours.list file
