-- Demand 2 of packed records, as laws of any reader: what is refused, that the word's writer and its fields are inverse, and that the
-- code bytes stand for the instructions of prologue (RULES 4.6) and epilogue (RULES 4.7 to 4.10).
use Rattle.std.specs.Prelude.{ℕ, ◌^◌, ◌<◌, ◌≡◌, ◌&&◌, Ok}
use Rattle.words.specs.declared.Refusal.TheVariants.{Reserved}
use Rattle.words.specs.Answer.{need, verdict}
use Rattle.packed.specs.Packed.{fields, fields_fit, allowed}
use Rattle.packed.specs.declared.Packed.{Packed}
use Rattle.packed_codes.specs.Lists.{Holds}
use Rattle.packed_codes.specs.declared.CodesOf.{CodesOf}
use Rattle.demands.specs.Reader.{Reader}

pub record PackedLaws (a : Reader) : Type 0 where
  -- the word's writer takes fields that fit and may be, and gives 4 for others; the code writer does as it does (RULES 9.55)
  pub accepted : (p : Packed) → verdict (a.word p) ≡ need (fields_fit p && allowed p) Reserved
  pub alike : (w : ℕ) → verdict (a.codes w) ≡ verdict (a.word (fields w))
  -- a word of 32 bits, whose fields are those that it was written from (RULES 4.18); and there is no other
  pub written_read : (p : Packed) (w : ℕ) → a.word p ≡ Ok w → (fields w ≡ p) × (w < 2 ^ 32)
  pub read-written : (w : ℕ) (c : CodesOf) → w < 2 ^ 32 → a.codes w ≡ Ok c → a.word (fields w) ≡ Ok w
  -- the code bytes are the prologue's codes in reverse and then the epilogue's, and zeros (RULES 4.16, 4.19)
  pub lists : (w : ℕ) (c : CodesOf) → a.codes w ≡ Ok c → Holds (fields w) c
