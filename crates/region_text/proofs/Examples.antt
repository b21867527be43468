-- Outlines of records, by computation: the text of the whole, not of its pieces.
-- Assumes nothing.
use Prim.Native.Nat.{ℕ}
use mathlib.Core.Path.{◌≡◌, refl}
use mathlib.Core.List.{List, [], ◌∷◌, ◌++◌}
use Rattle.lent.specs.Lent.{Lent, lent}
use Rattle.lent.proofs.Bytes.{bytes_of}
use Rattle.regions.specs.Table.{regions_of}
use Rattle.text.specs.Text.{text}
use Rattle.region_text.specs.RegionText.{regions_text}
use Rattle.region_text.proofs.Opened.{opened}

-- a record of one code word with a handler word, and what stands behind that
abbrev record-with : List ℕ → Lent
record-with ws = lent 0x3000 (bytes_of (0x103000A5 ∷ 0xFD04DDC7 ∷ 0x3001 ∷ ws))

-- what is printed for an RVA of the code
abbrev printed : (rva : ℕ) → Lent → List ℕ
printed a x = regions_text a (regions_of x 0x3000)

-- the first region of the table is inside the second, and the third ends before that begins
abbrev nested : List ℕ
nested =
    3
    ∷ 0x101A ∷ 0x1020 ∷ 0x3009 ∷ 0x1090
    ∷ 0x1018 ∷ 0x1030 ∷ 0x3001 ∷ 0x1080
    ∷ 0x1010 ∷ 0x1016 ∷ 0x3001 ∷ 0x1070 ∷ []

-- the first RVA of a region is in it
nested-in :
    printed 0x101A (record-with nested)
    ≡ text "  - 00001010 00001016 00003001 00001070\n"
    ++ text "  * 00001018 00001030 00003001 00001080\n"
    ++ text "    * 0000101a 00001020 00003009 00001090\n"
unfolding opened
nested-in = refl

-- its end is not
nested-behind :
    printed 0x1020 (record-with nested)
    ≡ text "  - 00001010 00001016 00003001 00001070\n"
    ++ text "  * 00001018 00001030 00003001 00001080\n"
    ++ text "    - 0000101a 00001020 00003009 00001090\n"
unfolding opened
nested-behind = refl

-- equal ranges nest as they stand in the table; two that touch stand side by side under the one that they fill
equal-and-touching :
    printed 0x1008 (record-with (4
    ∷ 0x1000 ∷ 0x1010 ∷ 0x3001 ∷ 1
    ∷ 0x1008 ∷ 0x1010 ∷ 0x3001 ∷ 2
    ∷ 0x1000 ∷ 0x1010 ∷ 0x3001 ∷ 3
    ∷ 0x1000 ∷ 0x1008 ∷ 0x3001 ∷ 4 ∷ []))
    ≡ text "  * 00001000 00001010 00003001 00000001\n"
    ++ text "    * 00001000 00001010 00003001 00000003\n"
    ++ text "      - 00001000 00001008 00003001 00000004\n"
    ++ text "      * 00001008 00001010 00003001 00000002\n"
unfolding opened
equal-and-touching = refl

-- an empty table, and a record without a handler word
no-regions : printed 0x1000 (record-with (0 ∷ [])) ≡ []
unfolding opened
no-regions = refl

no-handler : printed 0x1000 (lent 0x3000 (bytes_of (0x102000A5 ∷ 0xFD04DDC7 ∷ 65 ∷ []))) ≡ []
unfolding opened
no-handler = refl

-- 16: a region that is empty, and two that cross. 15: one too many, or not all of them lent, and that comes before 16
empty-region : printed 0x1000 (record-with (1 ∷ 0x1000 ∷ 0x1000 ∷ 1 ∷ 2 ∷ [])) ≡ text "  refused 16\n"
unfolding opened
empty-region = refl

crossing : printed 0x1000 (record-with (2 ∷ 0x1000 ∷ 0x1010 ∷ 1 ∷ 2 ∷ 0x1008 ∷ 0x1018 ∷ 1 ∷ 2 ∷ [])) ≡ text "  refused 16\n"
unfolding opened
crossing = refl

many : printed 0x1000 (record-with (65 ∷ [])) ≡ text "  refused 15\n"
unfolding opened
many = refl

cut_short : printed 0x1000 (record-with (2 ∷ 0x1000 ∷ 0x1000 ∷ 1 ∷ 2 ∷ [])) ≡ text "  refused 15\n"
unfolding opened
cut_short = refl

no-count : printed 0x1000 (record-with []) ≡ text "  refused 15\n"
unfolding opened
no-count = refl

-- a record that is refused itself keeps its number
outside : printed 0x1000 (lent 0x3000 []) ≡ text "  refused 5\n"
unfolding opened
outside = refl
