-- A text without the lines that begin with a space: what `grep -v '^ '` leaves. Of an outline it leaves the listing (RULES 8.17;
-- `stripped-listing` of proofs/Stripping.antt).
use Rattle.std.specs.Prelude.{ℕ, List, [], ◌∷◌, eqb, if◌then◌else◌}

-- where a text stands: at the start of a line, in a line that is kept, in one that is left out
pub data Where : Type 0 where
  start : Where
  kept : Where
  dropped : Where

-- after a byte of a line that is kept, or left out
abbrev pub after_kept : ℕ → Where
after_kept c = if eqb c 0x0A then start else kept

abbrev pub after_dropped : ℕ → Where
after_dropped c = if eqb c 0x0A then start else dropped

unfoldable pub stripped_from : Where → List ℕ → List ℕ
stripped_from w [] = []
stripped_from start (c ∷ t) = if eqb c 0x20 then stripped_from dropped t else c ∷ stripped_from (after_kept c) t
stripped_from kept (c ∷ t) = c ∷ stripped_from (after_kept c) t
stripped_from dropped (c ∷ t) = stripped_from (after_dropped c) t

abbrev pub stripped : List ℕ → List ℕ
stripped s = stripped_from start s
