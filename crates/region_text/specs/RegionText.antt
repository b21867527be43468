-- The outline of a record's regions as text (RULES 8.15, 8.16), for an RVA that stands in some of them:
--
--     - 00001010 00001016 00003001 00001070
--     * 00001018 00001030 00003001 00001080
--       * 0000101a 00001020 00003009 00001090
use Rattle.std.specs.Prelude.{ℕ, ◌+◌, ◌*◌, List, [], ◌++◌, replicate, if◌then◌else◌}
use Rattle.text.specs.Text.{text, decimal, hex8}
use Rattle.regions.specs.declared.Region.{Region}
use Rattle.regions.specs.declared.RegionRefusal.{RegionRefusal}
use Rattle.regions.specs.Region.{within}
use Rattle.regions.specs.Table.{Listed, listed, denied, region_number}
use Rattle.nesting.specs.Outline.{Outline, none, region, outline}

-- two spaces for each level
abbrev pub indent : (level : ℕ) → List ℕ
indent n = replicate (2 * n) 0x20

-- a star where the RVA is in the region
abbrev pub mark : (rva : ℕ) → Region → List ℕ
mark a r = if within a r then text "*" else text "-"

abbrev pub region_line : (level rva : ℕ) → Region → List ℕ
region_line n a r =
    indent n ++ mark a r ++ text " " ++ hex8 r.begin ++ text " " ++ hex8 r.end ++ text " " ++ hex8 r.handler ++ text " " ++ hex8 r.target ++ text "\n"

-- a region's line, its inner regions one level further in, and then those beside it
unfoldable pub outline_text : (level rva : ℕ) → Outline → List ℕ
outline_text n a none = []
outline_text n a (region r i b) = region_line n a r ++ outline_text (n + 1) a i ++ outline_text n a b

-- a refused table is one line
abbrev pub refused_line : RegionRefusal → List ℕ
refused_line r = text "  refused " ++ decimal (region_number r) ++ text "\n"

unfoldable pub regions_text : (rva : ℕ) → Listed → List ℕ
regions_text a (listed rs) = outline_text 1 a (outline rs)
regions_text a (denied r) = refused_line r
