-- The head as the code reads it, part by part. That these parts are `head_at` is a law (proofs/Heads.antt).
use Rattle.std.specs.Prelude.{ℕ, Ok}
use Rattle.lent.specs.Lent.{Lent, holds}
use Rattle.words.specs.declared.Refusal.TheVariants.{OutsideXdata}
use Rattle.words.specs.Answer.{Res, need, ◌>>=◌, ◌>>◌}
use Rattle.xdata.specs.declared.Head.{Head}
use Rattle.xdata.specs.Xdata.{record_bytes, long_head}

-- what is left to ask of a head: that all of its record is lent (RULES 9.52)
abbrev pub whole_record : Lent → ℕ → Head → Res Head
whole_record x a h = do
  need (holds x a (record_bytes h)) OutsideXdata
  Ok h

abbrev pub long_record : Lent → (at word : ℕ) → Res Head
long_record x a w = do
  h ← long_head x a w
  whole_record x a h
