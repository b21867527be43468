-- The reader's moves (RULES 3.6), and what a pass over a code list finds (RULES 3.7). That a pass finds the list is a law (`codes-end`, `codes-refused` of
-- proofs/Sizes.antt).
use Rattle.std.specs.Prelude.{◌/◌, Ok}
use Rattle.words.specs.declared.CodeBytes.{CodeBytes}
use Rattle.words.specs.Answer.{Res, ◌>>=◌}
use Rattle.unwinding.specs.CodeList.{total}
use Rattle.unwinding.specs.Taking.{Scan}
use Rattle.codes.specs.Code.{halves}
use Rattle.codes.specs.declared.Code.{Code}
use Rattle.words.specs.declared.Halfwords.{Halfwords}
use Rattle.codes.specs.declared.Taken.{Taken}
use Rattle.codes.specs.declared.Taken.TheVariants.{One, Last, Bad}
use Rattle.reader.specs.declared.Moved.{Moved}
use Rattle.reader.specs.declared.Ends.{Ends}

-- where a reader stands that has taken what stood at an index: past a code, and else where it was
abbrev pub past : Taken Halfwords → CodeBytes → CodeBytes
past (One z next) i = next
past (Last n) i = i
past (Bad j) i = i

abbrev pub moved : Taken Halfwords → CodeBytes → Moved
moved t i = record { taken = t; at = past t i }

-- the halfwords of a code list's instructions and of its end code's, or refusal 6. A list of any length has fewer than 2 ^ 64
abbrev pub scanned : Scan Code → Res Ends
scanned s = s.ending >>= λ n. Ok (record { list = total halves s.list; end = n / 2 })
