-- Sixteen code bytes, written from the first on. That they come to `written` is a law (`codes-written` of proofs/Written.antt).
use Rattle.std.specs.Prelude.{ℕ, ◌+◌, List, ◌∷◌, [], set, replicate, ltb, if◌then◌else◌}
use Rattle.packed_codes.specs.declared.Out.{Out}

abbrev pub blank : Out
blank = record { bytes = replicate 16 0; len = 0 }

-- one more byte, while there is room
unfoldable pub put_of : Out → ℕ → Out
put_of o b = if ltb o.len 16 then record { bytes = set o.bytes o.len b; len = o.len + 1 } else o

unfoldable pub puts : Out → List ℕ → Out
puts o [] = o
puts o (b ∷ l) = puts (put_of o b) l
