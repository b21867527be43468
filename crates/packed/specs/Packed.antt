-- Packed words (RULES 4.1).
--
--   31          22 21 20 19 18  16 15 14  13 12         2 1   0
--  | Stack Adjust | C| L| R| Reg  | H|  Ret | length / 2 | Flag |
--
-- Flag is 1, or 2 if there is no prologue (RULES 2.2).
use Rattle.std.specs.Prelude.{ℕ, ◌+◌, ◌-◌, ◌*◌, ◌%◌, ◌^◌, ◌<◌, Bool, ◌&&◌, ◌||◌, not, leb, ltb, eqb, if◌then◌else◌, Ok}
use Rattle.words.specs.declared.StackWords.{StackWords}
use Rattle.words.specs.declared.Refusal.TheVariants.{Reserved}
use Rattle.words.specs.Bits.{bits, bit}
use Rattle.words.specs.Units.{halfwords, halfword_bytes, stack_words}
use Rattle.words.specs.Answer.{Res, need, or_else, ◌>>◌}
use Rattle.codes.specs.Table.{range}
use Rattle.packed.specs.declared.Packed.{Packed}

abbrev pub fields : ℕ → Packed
fields w =
    record { flag = bits 0 2 w; length = halfwords (bits 2 11 w); ret = bits 13 2 w; h = bits 15 1 w; reg = bits 16 3 w; r = bits 19 1 w; l = bits 20 1 w; c = bits 21 1 w; adjust = bits 22 10 w }

abbrev pub word_of : Packed → ℕ
word_of p =
    p.flag + 2 ^ 2 * p.length.0 + 2 ^ 13 * p.ret + 2 ^ 15 * p.h + 2 ^ 16 * p.reg + 2 ^ 19 * p.r + 2 ^ 20 * p.l + 2 ^ 21 * p.c
    + 2 ^ 22 * p.adjust

-- each field fits its bits (RULES 9.55)
abbrev pub fields_fit : Packed → Bool
fields_fit p =
    ltb p.flag (2 ^ 2) && ltb p.length.0 (2 ^ 11) && ltb p.ret (2 ^ 2) && ltb p.h 2 && ltb p.reg (2 ^ 3) && ltb p.r 2
    && ltb p.l 2
    && ltb p.c 2
    && ltb p.adjust (2 ^ 10)

-- a packed word may have these fields: Flag 1 or 2 (RULES 9.55), and nothing that RULES 4.5 rules out
abbrev pub allowed : Packed → Bool
allowed p =
    (eqb p.flag 1 || eqb p.flag 2) && not (eqb p.ret 0 && eqb p.l 0) && not (eqb p.c 1 && eqb p.l 0)
    && not (eqb p.c 1 && eqb p.r 0 && eqb p.reg 7)

-- the word's writer (RULES 4.18)
unfoldable pub write_word : Packed → Res ℕ
write_word p = do
  need (fields_fit p && allowed p) Reserved
  Ok (word_of p)

-- what a written word counts as where a number is owed: 0 if it is refused (RULES 4.18)
abbrev pub word_given : Res ℕ → ℕ
word_given w = or_else w 0

-- what Stack Adjust says: the amount, and whether push (PF) and pop (EF) make it (RULES 4.2)
abbrev pub folded : Packed → Bool
folded p = leb 0x3F4 p.adjust

abbrev pub amount : Packed → StackWords
amount p = stack_words (if folded p then p.adjust % 4 + 1 else p.adjust)

abbrev pub PF : Packed → Bool
PF p = folded p && bit 2 p.adjust

abbrev pub EF : Packed → Bool
EF p = folded p && bit 3 p.adjust

-- the integer list but for LR, with what a fold adds to it: PF or EF says whether (RULES 4.3)
abbrev pub integers : Packed → (fold : Bool) → ℕ
integers p fold =
    (if eqb p.r 0 then range 4 (4 + p.reg) else 0) + (if fold then range (3 - p.adjust % 4) 3 else 0) + p.c * 2 ^ 11

-- the function's length in bytes, and whether it has no prologue (RULES 4.17)
abbrev pub packed_span : Packed → ℕ
packed_span p = halfword_bytes p.length

abbrev pub packed_fragment : Packed → Bool
packed_fragment p = eqb p.flag 2

-- each field below what its bits hold
pub record Fit (p : Packed) : Type 0 where
  pub flag : p.flag < 2 ^ 2
  pub length : p.length.0 < 2 ^ 11
  pub ret : p.ret < 2 ^ 2
  pub h : p.h < 2
  pub reg : p.reg < 2 ^ 3
  pub r : p.r < 2
  pub l : p.l < 2
  pub c : p.c < 2
  pub adjust : p.adjust < 2 ^ 10
