-- The .pdata: records of two words, a function's start and its record or the way to one (RULES 2.1), in order (RULES 2.3); and finding in
-- it (RULES 2.5, 9.55).
use Rattle.std.specs.Prelude.{ℕ, zero, suc, ◌+◌, ◌-◌, ◌*◌, ◌/◌, ◌%◌, List, ◌∷◌, map, [], length, leb, eqb, if◌then◌else◌, Option, None, Some, Ok}
use Rattle.words.specs.Bits.{even}
use Rattle.lent.specs.Little.{word32}
use Rattle.words.specs.declared.Refusal.TheVariants.{UnfitInput, PcBelowBase, StartsNotAscending}
use Rattle.words.specs.Answer.{Res, need, maybe, ◌>>◌}
use Rattle.unwinding.specs.View.{ascending}
use Rattle.pdata.specs.declared.Entry.{Entry}
use Rattle.pdata.specs.declared.Checked.{Checked}

-- the record of a number, bit 0 of its start cleared (RULES 1.4)
abbrev pub entry_at : List ℕ → ℕ → Entry
entry_at s i = record { number = i; start = even (word32 s (8 * i)); word = word32 s (8 * i + 4) }

-- n records, the first of which has this number
unfoldable pub entries_from : List ℕ → (number n : ℕ) → List Entry
entries_from s i zero = []
entries_from s i (suc n) =
    entry_at s i ∷ entries_from s (i + 1) n

abbrev pub entries : List ℕ → List Entry
entries s = entries_from s 0 (length s / 8)

abbrev pub starts : List ℕ → List ℕ
starts s = map (λ e. e.start) (entries s)

-- the last record that starts at or before an RVA: in an ascending table, of those the one with the greatest start (RULES 2.4)
unfoldable pub last_up_to : List Entry → (rva : ℕ) → Option Entry
last_up_to [] a = None
last_up_to (e ∷ es) a = maybe (last_up_to es a) (if leb e.start a then Some e else None) Some

-- what finding asks of the table alone, and so once for a walk: 1 for its length and 3
abbrev pub checked : List ℕ → Checked
checked s = record { fit = eqb (length s % 8) 0; sorted = ascending (starts s) }

-- finding by an RVA: 1 for the length, 3, and then the record or none
unfoldable pub find_rva : (pdata : List ℕ) → (rva : ℕ) → Res (Option Entry)
find_rva s a = do
  need (eqb (length s % 8) 0) UnfitInput
  need (ascending (starts s)) StartsNotAscending
  Ok (last_up_to (entries s) a)

-- finding the record for a pc: 1 for the length, 2, and then by its RVA
unfoldable pub find : (image : ℕ) → (pdata : List ℕ) → (pc : ℕ) → Res (Option Entry)
find image s pc = do
  need (checked s).fit UnfitInput
  need (leb image (even pc)) PcBelowBase
  find_rva s (even pc - image)
