-- The numbers at a byte offset of a list of bytes, lowest byte first (RULES 1.3). Whoever cites one has tested that its bytes are there.
use Rattle.std.specs.Prelude.{ℕ, ◌+◌, ◌*◌, ◌^◌, List, get_or}

abbrev pub word16 : List ℕ → ℕ → ℕ
word16 s i = get_or s i 0 + 2 ^ 8 * get_or s (i + 1) 0

abbrev pub word32 : List ℕ → ℕ → ℕ
word32 s i = word16 s i + 2 ^ 16 * word16 s (i + 2)

abbrev pub word64 : List ℕ → ℕ → ℕ
word64 s i = word32 s i + 2 ^ 32 * word32 s (i + 4)
