-- How many registers of a list are below a number: the words that a pop of them takes (RULES 3.11).
use Rattle.std.specs.Prelude.{ℕ, zero, suc, ◌+◌, if◌then◌else◌}
use Rattle.words.specs.Bits.{bit}

unfoldable pub words_listed : (list n : ℕ) → ℕ
words_listed l zero = 0
words_listed l (suc n) = words_listed l n + (if bit n l then 1 else 0)
