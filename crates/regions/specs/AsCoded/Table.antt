-- A region table as the code finds it: where its first region begins, and how many there are. That this lists the regions of RULES 2.14 is
-- a law (`table-listed` of proofs/Tables.antt).
use Rattle.std.specs.Prelude.{ℕ, ◌+◌, ◌-◌, ◌%◌, List, if◌then◌else◌, Result, Ok, Err}
use Rattle.words.specs.Answer.{either}
use Rattle.lent.specs.Lent.{Lent, word_at}
use Rattle.xdata.specs.Xdata.{handled, xdata_size}
use Rattle.regions.specs.declared.Regions.{Regions}
use Rattle.regions.specs.declared.RegionRefusal.{RegionRefusal}
use Rattle.regions.specs.declared.RegionRefusal.TheVariants.{Record, TableOutside, Crossed}
use Rattle.regions.specs.Region.{regions_from, sound}
use Rattle.regions.specs.Table.{Listed, listed, denied, table_lent, first_of}

abbrev pub table_given : (first count : ℕ) → Result Regions RegionRefusal
table_given f n = Ok (record { first = f; count = n })

abbrev pub sound_table : List ℕ → (first count : ℕ) → Result Regions RegionRefusal
sound_table s f n = if sound (regions_from s f 0 n) then table_given f n else Err Crossed

abbrev pub table_read : Lent → (at : ℕ) → Result Regions RegionRefusal
table_read x a = if table_lent x a then sound_table x.bytes (first_of x a) (word_at x a) else Err TableOutside

abbrev pub table_after : Lent → (at bytes : ℕ) → Result Regions RegionRefusal
table_after x a n = if handled (word_at x a) then table_read x (a + n) else table_given 0 0

unfoldable pub table_of : Lent → (at : ℕ) → Result Regions RegionRefusal
table_of x a = either (xdata_size x a) (λ r. Err (Record r)) (λ n. table_after x (a - a % 4) n)

-- what a table counts as where its numbers are owed: zeros if it is refused (RULES 9.57)
abbrev pub regions_given : Result Regions RegionRefusal → Regions
regions_given (Ok t) = t
regions_given (Err r) = record { first = 0; count = 0 }

-- the regions that such a table names
abbrev pub listed_in : List ℕ → Result Regions RegionRefusal → Listed
listed_in s (Ok t) = listed (regions_from s t.first 0 t.count)
listed_in s (Err r) = denied r
