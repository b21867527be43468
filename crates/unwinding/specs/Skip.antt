-- Skipping codes of instructions not yet done, or done, on any machine (RULES 5.8, 5.9).
use Rattle.std.specs.Prelude.{ℕ, zero, suc, ◌+◌, ◌-◌, List, [], ◌∷◌, leb, eqb, if◌then◌else◌, Option, None, Some}
use Rattle.words.specs.declared.CodeBytes.{CodeBytes}
use Rattle.words.specs.Units.{code_bytes}
use Rattle.unwinding.specs.Taking.{Taken, one, last, bad}

module _ {C : Type 0} (size : C → ℕ) where
  -- a code whose instruction is no longer than n bytes is skipped, and the rest of the n bytes behind it
  abbrev pub over : Taken C → (n : ℕ) → (CodeBytes → ℕ → Option CodeBytes) → Option CodeBytes
  over (one c next) n rest = if leb (size c) n then rest next (n - size c) else None
  over (last e) n rest = None
  over (bad i) n rest = None

  module _ (take : (at : ℕ) → (left : List ℕ) → Taken C) (bytes : (first : ℕ) → ℕ) where
    -- after `skip` bytes of those that are left: the index behind codes whose instructions take n bytes; none if n bytes end inside an
    -- instruction or behind the list
    unfoldable pub skip_from : (at : ℕ) → (left : List ℕ) → (skip n : ℕ) → Option CodeBytes
    skip_from at [] skip n = if eqb n 0 then Some (code_bytes (at + skip)) else None
    skip_from at (b ∷ s) (suc k) n = skip_from (at + 1) s k n
    skip_from at (b ∷ s) zero n =
        if eqb n 0 then Some (code_bytes at) else over (take at (b ∷ s)) n (λ next m. skip_from (at + 1) s (bytes b - 1) m)

    abbrev pub skip_at : List ℕ → CodeBytes → (n : ℕ) → Option CodeBytes
    skip_at s i n = skip_from 0 s i.0 n
