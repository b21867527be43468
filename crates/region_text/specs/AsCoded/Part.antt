-- The part of an outline that one list prints: the regions in front that pass a test. Without a test it is all; with that of `covers` it is
-- the inner regions of one (`front-all`, `front-covers` of proofs/Parts.antt).
use Rattle.std.specs.Prelude.{ℕ, ◌+◌, ◌≤◌, ◌<◌, Bool, ◌&&◌, ◌||◌, ◌≡◌, List, ◌++◌, length, drop, get_or, leb, if◌then◌else◌}
use Rattle.text.specs.Text.{text, hex8}
use Rattle.text.specs.Overlay.{Laid}
use Rattle.regions.specs.declared.Region.{Region}
use Rattle.nesting.specs.Outline.{Outline, none, region, front, behind, nest}
use Rattle.regions.specs.Region.{region_in}
use Rattle.nesting.specs.AsCoded.Order.{those}
use Rattle.region_text.specs.declared.Put.{Put}
use Rattle.region_text.specs.RegionText.{mark, outline_text, region_line}

-- a region's line without its indentation
abbrev pub unindented : (rva : ℕ) → Region → List ℕ
unindented a r =
    mark a r ++ text " " ++ hex8 r.begin ++ text " " ++ hex8 r.end ++ text " " ++ hex8 r.handler ++ text " " ++ hex8 r.target ++ text "\n"

-- a region is in a list: the outermost one, or that of the regions inside a range
abbrev pub in_list : (top : Bool) → (low high : ℕ) → Region → Bool
in_list t l h r = t || (leb l r.begin && leb r.end h)

unfoldable pub front_of : (top : Bool) → (low high : ℕ) → Outline → Outline
front_of t l h none = none
front_of t l h (region s i b) = if in_list t l h s then region s i (front_of t l h b) else none

unfoldable pub behind_of : (top : Bool) → (low high : ℕ) → Outline → Outline
behind_of t l h none = none
behind_of t l h (region s i b) = if in_list t l h s then behind_of t l h b else region s i b

-- the outline of the regions from a place of the order on
abbrev pub from : List ℕ → (first : ℕ) → (order : List ℕ) → (k : ℕ) → Outline
from s f order k = nest (those s f (drop k order))

-- the region at a place of the order
abbrev pub region_of : List ℕ → (first : ℕ) → (order : List ℕ) → (k : ℕ) → Region
region_of s f order k = region_in s f (get_or order k 0)

-- a region is printed: its line and its inner regions, and the place in the order behind them
pub record PutRegion (s : List ℕ) (f : ℕ) (order : List ℕ) (k level rva : ℕ) (buffer : List ℕ) (at : ℕ) (r : Put) (left : List ℕ) : Type 0 where
  pub text :
      Laid buffer at
      (region_line level rva (region_of s f order k) ++ outline_text (level + 1) rva (front (region_of s f order k) (from s f order (k + 1))))
      r.at left
  pub rest : from s f order r.next ≡ behind (region_of s f order k) (from s f order (k + 1))
  pub onward : k < r.next
  pub within : r.next ≤ length order

-- a list is printed: the text of its part, and the place in the order behind it
pub record PutList (s : List ℕ) (f : ℕ) (order : List ℕ) (k : ℕ) (top : Bool) (low high level rva : ℕ) (buffer : List ℕ) (at : ℕ) (r : Put) (left : List ℕ) : Type 0 where
  pub text : Laid buffer at (outline_text level rva (front_of top low high (from s f order k))) r.at left
  pub rest : from s f order r.next ≡ behind_of top low high (from s f order k)
  pub onward : k ≤ r.next
  pub within : r.next ≤ length order
