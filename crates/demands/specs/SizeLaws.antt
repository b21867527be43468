-- An .xdata record's size, asked of any reader that gives one: four bytes for each word of the record, counted off the lent words themselves,
-- and all of them lent.
use Rattle.std.specs.Prelude.{ℕ, ◌+◌, ◌-◌, ◌*◌, ◌%◌, ◌≤◌, ◌≡◌, eqb, if◌then◌else◌, Ok}
use Rattle.words.specs.Bits.{bits, bit}
use Rattle.lent.specs.Lent.{Lent, end, word_at}
use Rattle.demands.specs.Reader.{Reader}

-- the words of a record that begins with w and v: its head, its scopes, its codes and its handler (RULES 2.8 to 2.13)
abbrev pub word_count : (w v : ℕ) → ℕ
word_count w v =
    let long = eqb (bits 23 9 w) 0 in
    (if long then 2 else 1) + (if bit 21 w then 0 else (if long then bits 0 16 v else bits 23 5 w))
    + (if long then bits 16 8 v else bits 28 4 w)
    + (if bit 20 w then 1 else 0)

-- of the size given for a record's RVA, whose bits 0-1 are cleared (RULES 2.13)
pub record SizeLaws (a : Reader) : Type 0 where
  pub counted : (x : Lent) (at n : ℕ) → a.size x at ≡ Ok n → n ≡ 4 * word_count (word_at x (at - at % 4)) (word_at x (at - at % 4 + 4))
  pub inside : (x : Lent) (at n : ℕ) → a.size x at ≡ Ok n → (x.base ≤ at - at % 4) × (at - at % 4 + n ≤ end x)
