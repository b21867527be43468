-- The three units, each a type of its own, and the conversions to bytes, each with its name (RULES 1.6).
use Rattle.std.specs.Prelude.{ℕ, ◌*◌}
use Rattle.words.specs.declared.Halfwords.{Halfwords}
use Rattle.words.specs.declared.CodeBytes.{CodeBytes}
use Rattle.words.specs.declared.StackWords.{StackWords}

abbrev pub halfwords : ℕ → Halfwords
halfwords n = record { 0 = n }

abbrev pub code_bytes : ℕ → CodeBytes
code_bytes n = record { 0 = n }

abbrev pub stack_words : ℕ → StackWords
stack_words n = record { 0 = n }

abbrev pub halfword_bytes : Halfwords → ℕ
halfword_bytes h = 2 * h.0

abbrev pub stack_bytes : StackWords → ℕ
stack_bytes w = 4 * w.0

-- the count of code words in a record's head, as code bytes
abbrev pub code_word_bytes : ℕ → CodeBytes
code_word_bytes n = code_bytes (4 * n)
