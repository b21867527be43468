-- Region tables, computed: what is listed, and what 15 and 16 refuse.
-- Assumes nothing.
use Prim.Native.Nat.{ℕ, zero, suc}
use mathlib.Core.Path.{◌≡◌, refl}
use mathlib.Core.List.{List, [], ◌∷◌, ◌++◌}
use Rattle.words.specs.declared.Refusal.TheVariants.{UnfitInput, OutsideXdata}
use Rattle.lent.specs.Lent.{Lent, lent}
use Rattle.lent.proofs.Bytes.{bytes_of}
use Rattle.regions.specs.declared.Region.{Region}
use Rattle.regions.specs.declared.RegionRefusal.TheVariants.{Record, TableOutside, Crossed}
use Rattle.regions.specs.Region.{regions_from}
use Rattle.regions.specs.Table.{Listed, listed, denied, regions_of}
use Rattle.regions.specs.AsCoded.Table.{table_given, table_of}
use Rattle.regions.proofs.Opened.{opened}

-- a record at RVA 0x1000 of a function of 0x20 bytes, without scopes and with one code word; X=1 and the handler at 0x2001, or X=0
abbrev handler_first : List ℕ
handler_first = 0x10100010 ∷ 0x000000FF ∷ 0x00002001 ∷ []

abbrev no_handler : List ℕ
no_handler = 0x10000010 ∷ 0x000000FF ∷ []

-- the record and the words behind it
abbrev behind : List ℕ → Lent
behind ws = lent 0x1000 (bytes_of (handler_first ++ ws))

abbrev regions : List ℕ → Listed
regions ws = regions_of (behind ws) 0x1000

-- a region's four words, and the region they are
abbrev range : (begin end : ℕ) → List ℕ
range b e = b ∷ e ∷ 0x2101 ∷ 0x2201 ∷ []

abbrev at : (number begin end : ℕ) → Region
at k b e = record { number = k; begin = b; end = e; handler = 0x2101; target = 0x2201 }

-- none
none : regions (0 ∷ []) ≡ listed []
unfolding opened
none = refl

-- nested, in any order
nested : regions (3 ∷ range 0x12 0x14 ++ range 0x10 0x20 ++ range 0x11 0x18) ≡ listed (at 0 0x12 0x14 ∷ at 1 0x10 0x20 ∷ at 2 0x11 0x18 ∷ [])
unfolding opened
nested = refl

-- where the code finds one
found : table_of (behind (1 ∷ range 0x10 0x20)) 0x1000 ≡ table_given 16 1
unfolding opened
found = refl

-- bits 0-1 of the record's RVA do not count
low_bits : regions_of (behind (1 ∷ range 0x10 0x20)) 0x1003 ≡ listed (at 0 0x10 0x20 ∷ [])
unfolding opened
low_bits = refl

-- a crossing pair, the later one first or last
crossing : regions (2 ∷ range 0x10 0x20 ++ range 0x18 0x28) ≡ denied Crossed
unfolding opened
crossing = refl

crossing_back : regions (3 ∷ range 0x18 0x28 ++ range 0x18 0x1A ++ range 0x10 0x20) ≡ denied Crossed
unfolding opened
crossing_back = refl

-- regions that touch do not cross
touching : regions (2 ∷ range 0x10 0x20 ++ range 0x20 0x30) ≡ listed (at 0 0x10 0x20 ∷ at 1 0x20 0x30 ∷ [])
unfolding opened
touching = refl

-- nor do those that share an end, or both
sharing :
    regions (4 ∷ range 0x10 0x30 ++ range 0x10 0x20 ++ range 0x20 0x30 ++ range 0x10 0x30)
    ≡ listed (at 0 0x10 0x30 ∷ at 1 0x10 0x20 ∷ at 2 0x20 0x30 ∷ at 3 0x10 0x30 ∷ [])
unfolding opened
sharing = refl

-- a region that holds nothing, or ends before it begins
empty : regions (2 ∷ range 0x10 0x20 ++ range 0x18 0x18) ≡ denied Crossed
unfolding opened
empty = refl

backwards : regions (1 ∷ range 0x20 0x10) ≡ denied Crossed
unfolding opened
backwards = refl

-- 64 regions are listed; 65 are refused, though their words are there
abbrev equal : ℕ → List ℕ
equal zero = []
equal (suc n) = range 0x10 0x20 ++ equal n

sixty-four : regions (64 ∷ equal 64) ≡ listed (regions_from (behind (64 ∷ equal 64)).bytes 16 0 64)
unfolding opened
sixty-four = refl

sixty-five : regions (65 ∷ equal 65) ≡ denied TableOutside
unfolding opened
sixty-five = refl

-- a table whose last word is missing is 15, whatever its regions are; so is one whose count word is
last-missing : regions (2 ∷ range 0x18 0x18 ++ (0x10 ∷ 0x20 ∷ 0x2101 ∷ [])) ≡ denied TableOutside
unfolding opened
last-missing = refl

count-missing : regions [] ≡ denied TableOutside
unfolding opened
count-missing = refl

-- without a handler there is no table, whatever stands behind the record
unhandled : regions_of (lent 0x1000 (bytes_of (no_handler ++ (1 ∷ range 0x20 0x10)))) 0x1000 ≡ listed []
unfolding opened
unhandled = refl

-- the record's own refusals come first: here its handler word is not lent, and there the .xdata's RVA is no multiple of 4
record-missing : regions_of (lent 0x1000 (bytes_of (0x10100010 ∷ 0x000000FF ∷ []))) 0x1000 ≡ denied (Record OutsideXdata)
unfolding opened
record-missing = refl

record-unfit : regions_of (lent 0x1002 (bytes_of (handler_first ++ (1 ∷ range 0x20 0x10)))) 0x1004 ≡ denied (Record UnfitInput)
unfolding opened
record-unfit = refl
