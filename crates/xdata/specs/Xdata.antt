-- The head and the size of an .xdata record (RULES 2.6 to 2.8, 2.13).
--
--   31        28 27   23 22 21 20 19  18 17            0
--  | Code words | Count | F| E| X| Vers | length / 2     |   word 0
--  |  reserved  | Code words |        Count              |   word 1, if bits 23-31 of word 0 are all 0: 24-31, 16-23, 0-15
--
-- After it come the scope words, none with E=1, the code bytes and, with X=1, the handler (RULES 2.9 to 2.12).
use Rattle.std.specs.Prelude.{ℕ, ◌+◌, ◌-◌, ◌*◌, ◌%◌, ◌^◌, Bool, ◌&&◌, leb, eqb, if◌then◌else◌, Ok}
use Rattle.words.specs.Bits.{bits, bit}
use Rattle.lent.specs.Lent.{Lent, end, holds, word_at}
use Rattle.words.specs.Units.{halfwords, halfword_bytes, code_word_bytes}
use Rattle.words.specs.declared.Refusal.TheVariants.{UnfitInput, Reserved, OutsideXdata}
use Rattle.words.specs.Answer.{Res, need, or_else, ◌>>=◌, ◌>>◌}
use Rattle.xdata.specs.declared.Head.{Head}

-- what 1 asks of the .xdata (RULES 9.1)
abbrev pub fit_xdata : Lent → Bool
fit_xdata x = eqb (x.base % 4) 0 && leb (end x) (2 ^ 32)

-- X of a head's first word
abbrev pub handled : (word : ℕ) → Bool
handled w = bit 20 w

abbrev pub X : Head → Bool
X h = handled h.word

abbrev pub E : Head → Bool
E h = bit 21 h.word

abbrev pub F : Head → Bool
F h = bit 22 h.word

-- the number of scope words; offsets in the record of its codes and of what follows them; its size (RULES 2.13)
abbrev pub scope_count : Head → ℕ
scope_count h = if E h then 0 else h.count

abbrev pub codes_offset : Head → ℕ
codes_offset h = h.bytes + 4 * scope_count h

abbrev pub handler_offset : Head → ℕ
handler_offset h = codes_offset h + (code_word_bytes h.codewords).0

abbrev pub record_bytes : Head → ℕ
record_bytes h = handler_offset h + (if X h then 4 else 0)

-- a head with the extension word (RULES 2.8): 5 if that is not lent, then 4
unfoldable pub long_head : Lent → (at word : ℕ) → Res Head
long_head x a w = do
  need (holds x a 8) OutsideXdata
  let v = word_at x (a + 4)
  need (eqb (bits 24 8 v) 0) Reserved
  Ok (record { word = w; bytes = 8; count = bits 0 16 v; codewords = bits 16 8 v })

abbrev pub short_head : ℕ → Head
short_head w = record { word = w; bytes = 4; count = bits 23 5 w; codewords = bits 28 4 w }

-- the head of a record that is lent, all of it: the tests of RULES 9.52 but for Res
unfoldable pub head_at : Lent → ℕ → Res Head
head_at x a = do
  need (holds x a 4) OutsideXdata
  let w = word_at x a
  need (eqb (bits 18 2 w) 0) Reserved
  h ← if eqb (bits 23 9 w) 0 then long_head x a w else Ok (short_head w)
  need (holds x a (record_bytes h)) OutsideXdata
  Ok h

-- the size routine, which clears bits 0-1 of a record's RVA (RULES 2.13, 9.55)
unfoldable pub xdata_size : Lent → ℕ → Res ℕ
xdata_size x a = do
  need (fit_xdata x) UnfitInput
  h ← head_at x (a - a % 4)
  Ok (record_bytes h)

-- what a size counts as where a number is owed: 0 if it is refused (RULES 2.13)
abbrev pub size_given : Res ℕ → ℕ
size_given s = or_else s 0

-- the function's length in bytes (RULES 2.7); the handler's RVA, 0 if there is no word of it (RULES 2.12)
abbrev pub span_of : (word : ℕ) → ℕ
span_of w = halfword_bytes (halfwords (bits 0 18 w))

abbrev pub handler_at : Lent → ℕ → Head → ℕ
handler_at x a h = if X h then word_at x (a + handler_offset h) else 0
