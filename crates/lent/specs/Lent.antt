-- Lent bytes and the address of the first (RULES 1.7): the stack and its base, the .xdata and its RVA.
use Rattle.std.specs.Prelude.{ℕ, ◌+◌, ◌-◌, List, Bool, ◌&&◌, length, leb}
use Rattle.lent.specs.Little.{word32}

pub record Lent : Type 0 where
  pub base : ℕ
  pub bytes : List ℕ

abbrev pub lent : (base : ℕ) → (bytes : List ℕ) → Lent
lent b s = record { base = b; bytes = s }

-- the address past the last byte
abbrev pub end : Lent → ℕ
end l = l.base + length l.bytes

-- n bytes from an address are lent
abbrev pub holds : Lent → (at n : ℕ) → Bool
holds l a n = leb l.base a && leb (a + n) (end l)

-- the word at an address, where its four bytes are lent
abbrev pub word_at : Lent → ℕ → ℕ
word_at l a = word32 l.bytes (a - l.base)
