-- Skipping, of these codes. That what is skipped to is the end of the list that is left is a law (`skip-ends` of
-- proofs/SkipEnds.antt).
use Rattle.std.specs.Prelude.{ℕ, List, Option}
use Rattle.words.specs.declared.CodeBytes.{CodeBytes}
use Rattle.unwinding.specs.Skip as General
use Rattle.codes.specs.Code.{size, taking, bytes_of}

-- the index behind codes whose instructions take n bytes; none if n bytes end inside an instruction or behind the list
abbrev pub skip_at : List ℕ → CodeBytes → (n : ℕ) → Option CodeBytes
skip_at s i n = General.skip_at size taking bytes_of s i n
