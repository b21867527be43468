-- The scope words of an .xdata record (RULES 2.9).
--
--   31    24 23     20 19 18 17         0
--  |  Index | Condition | Res | Start / 2 |
use Rattle.std.specs.Prelude.{ℕ, zero, suc, ◌+◌, List, ◌∷◌, [], eqb, Ok}
use Rattle.words.specs.Bits.{bits}
use Rattle.lent.specs.Lent.{Lent, word_at}
use Rattle.words.specs.Units.{code_bytes}
use Rattle.words.specs.declared.Refusal.TheVariants.{Reserved}
use Rattle.words.specs.Answer.{Res, need, ◌>>=◌, ◌>>◌}
use Rattle.unwinding.specs.declared.Scope.{Scope}
use Rattle.unwinding.specs.declared.Start.TheVariants.{From}
use Rattle.xdata.specs.Xdata.{span_of}

abbrev pub scope_of : ℕ → Scope
scope_of w =
    record { start = From (span_of w); condition = bits 20 4 w; index = code_bytes (bits 24 8 w) }

-- n scope words from an RVA, each of which has Res 0 (4 else)
unfoldable pub scopes_at : Lent → (at n : ℕ) → Res (List Scope)
scopes_at x a zero = Ok []
scopes_at x a (suc n) = do
  need (eqb (bits 18 2 (word_at x a)) 0) Reserved
  rest ← scopes_at x (a + 4) n
  Ok (scope_of (word_at x a) ∷ rest)
