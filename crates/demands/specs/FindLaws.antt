-- Laws of finding (RULES 2.4, 2.5), of any reader, in terms of the .pdata's own records and not of how they are searched.
use Rattle.std.specs.Prelude.{ℕ, ◌+◌, ◌/◌, ◌≤◌, ◌<◌, ◌≡◌, List, length, None, Some, Ok}
use Rattle.words.specs.Bits.{even}
use Rattle.pdata.specs.Pdata.{entry_at}
use Rattle.pdata.specs.declared.Entry.{Entry}
use Rattle.demands.specs.Reader.{Reader}

-- the table's record of its number, which starts at or below the pc, and no record starts between them
pub record Greatest (image : ℕ) (s : List ℕ) (pc : ℕ) (e : Entry) : Type 0 where
  pub inside : e.number < length s / 8
  pub same : e ≡ entry_at s e.number
  pub below : image + e.start ≤ even pc
  pub between : (i : ℕ) → i < length s / 8 → image + (entry_at s i).start ≤ even pc → (entry_at s i).start ≤ e.start

pub record FindLaws (a : Reader) : Type 0 where
  pub found : (image : ℕ) (s : List ℕ) (pc : ℕ) (e : Entry) → a.find image s pc ≡ Ok (Some e) → Greatest image s pc e
  pub nothing : (image : ℕ) (s : List ℕ) (pc : ℕ) → a.find image s pc ≡ Ok None → (i : ℕ) → i < length s / 8 → even pc < image + (entry_at s i).start
