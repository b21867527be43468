-- Codes in code bytes, on any machine: one code, and the list from an index on up to an end code, or refusal 6 (RULES 3.5, 3.8).
use Rattle.std.specs.Prelude.{ℕ, zero, suc, ◌+◌, ◌-◌, List, [], ◌∷◌, Ok, Err}
use Rattle.words.specs.declared.CodeBytes.{CodeBytes}
use Rattle.words.specs.declared.Refusal.TheVariants.{BadCodes}
use Rattle.words.specs.Units.{code_bytes}
use Rattle.words.specs.Answer.{Res, ◌>>=◌}
use Rattle.unwinding.specs.CodeList.{Codes}

-- what stands at the front of code bytes
pub data Taken (C : Type 0) : Type 0 where
  -- a code, and the index of what follows it
  one : C → CodeBytes → Taken C
  -- an end code, with its instruction's size
  last : ℕ → Taken C
  -- no code, with the index that refusal 6 holds
  bad : CodeBytes → Taken C

-- the codes before an end code or before what is no code; the end's size, or refusal 6
pub record Scan (C : Type 0) : Type 0 where
  pub list : List C
  pub ending : Res ℕ

abbrev pub nothing : {C : Type 0} → CodeBytes → Scan C
nothing i = record { list = []; ending = Err (BadCodes i) }

abbrev pub follow : {C : Type 0} → Taken C → (rest : CodeBytes → Scan C) → Scan C
follow (one c next) rest = let r = rest next in record { list = c ∷ r.list; ending = r.ending }
follow (last n) rest = record { list = []; ending = Ok n }
follow (bad i) rest = nothing i

-- a machine takes the code at the front of the bytes that are left, the first of which has index `at`, and knows by its first byte how
-- many bytes it has
module _ {C : Type 0} (take : (at : ℕ) → (left : List ℕ) → Taken C) (bytes : (first : ℕ) → ℕ) where
  -- after `skip` bytes of those that are left: one code, and then the rest. An index past the bytes is what refusal 6 holds
  unfoldable pub scan_from : (at : ℕ) → (left : List ℕ) → (skip : ℕ) → Scan C
  scan_from at [] skip = nothing (code_bytes (at + skip))
  scan_from at (b ∷ s) (suc k) = scan_from (at + 1) s k
  scan_from at (b ∷ s) zero = follow (take at (b ∷ s)) (λ next. scan_from (at + 1) s (bytes b - 1))

  abbrev pub scan : List ℕ → CodeBytes → Scan C
  scan s i = scan_from 0 s i.0

  abbrev pub codes_at : List ℕ → CodeBytes → Res (Codes C)
  codes_at s i = (scan s i).ending >>= λ n. Ok (record { list = (scan s i).list; end_size = n })
