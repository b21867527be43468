-- The region table of an .xdata record (RULES 2.14): with X=1 a count word stands behind the handler word, and then so many regions.
use Rattle.std.specs.Prelude.{ℕ, ◌+◌, ◌-◌, ◌*◌, ◌%◌, List, [], Bool, ◌&&◌, leb, if◌then◌else◌}
use Rattle.words.specs.Refusals.{number}
use Rattle.words.specs.Answer.{either}
use Rattle.lent.specs.Lent.{Lent, holds, word_at}
use Rattle.xdata.specs.Xdata.{handled, xdata_size}
use Rattle.regions.specs.declared.Region.{Region}
use Rattle.regions.specs.declared.RegionRefusal.{RegionRefusal}
use Rattle.regions.specs.declared.RegionRefusal.TheVariants.{Record, TableOutside, Crossed}
use Rattle.regions.specs.Region.{regions_from, sound}

-- 15 and 16 beside the numbers of a record's refusals (RULES 9)
abbrev pub region_number : RegionRefusal → ℕ
region_number (Record r) = number r
region_number TableOutside = 15
region_number Crossed = 16

-- the regions of a record, or why there are none
pub data Listed : Type 0 where
  listed : List Region → Listed
  denied : RegionRefusal → Listed

-- what 15 asks: the count word is lent, the count is at most 64, all its records are lent (RULES 9.15)
abbrev pub table_lent : Lent → (at : ℕ) → Bool
table_lent x a = holds x a 4 && leb (word_at x a) 64 && holds x (a + 4) (16 * word_at x a)

-- the offset of the first region
abbrev pub first_of : Lent → (at : ℕ) → ℕ
first_of x a = a + 4 - x.base

-- the table whose count word stands at an RVA: 15, then 16
abbrev pub table_at : Lent → (at : ℕ) → Listed
table_at x a =
    let rs = regions_from x.bytes (first_of x a) 0 (word_at x a) in
    if table_lent x a then (if sound rs then listed rs else denied Crossed) else denied TableOutside

-- the table behind a record of so many bytes; without a handler word there is none (RULES 2.12)
abbrev pub table_behind : Lent → (at bytes : ℕ) → Listed
table_behind x a n = if handled (word_at x a) then table_at x (a + n) else listed []

-- the regions of the .xdata record at an RVA, whose bits 0-1 are cleared: the record ends where the size routine says, or is refused as there
-- (RULES 2.13, 9.55)
unfoldable pub regions_of : Lent → (at : ℕ) → Listed
regions_of x a = either (xdata_size x a) (λ r. denied (Record r)) (λ n. table_behind x (a - a % 4) n)
