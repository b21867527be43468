-- The shape of a .pdata record, full (RULES 2.6 to 2.12) or packed (RULES 4.17).
use Rattle.std.specs.Prelude.{ℕ, ◌+◌, ◌-◌, List, ◌∷◌, [], take, drop, eqb, if◌then◌else◌, Ok}
use Rattle.words.specs.Bits.{bits}
use Rattle.lent.specs.Lent.{Lent}
use Rattle.words.specs.Units.{code_bytes, code_word_bytes}
use Rattle.words.specs.declared.CodeBytes.{CodeBytes}
use Rattle.words.specs.Answer.{Res, ◌>>=◌}
use Rattle.unwinding.specs.Shape.{Shape}
use Rattle.unwinding.specs.declared.Scope.{Scope}
use Rattle.codes.specs.Condition.{always}
use Rattle.unwinding.specs.declared.Start.TheVariants.{Ending}
use Rattle.packed.specs.Packed.{fields, packed_span, packed_fragment}
use Rattle.packed_codes.specs.PackedCodes.{write_codes}
use Rattle.xdata.specs.Xdata.{E, F, scope_count, codes_offset, span_of, handler_at, head_at}
use Rattle.xdata.specs.Scopes.{scopes_at}
use Rattle.xdata.specs.declared.Head.{Head}
use Rattle.pdata.specs.declared.Entry.{Entry}

-- the one epilogue of E=1 and of a packed word: of condition 0xE, and it ends where the function does (RULES 2.10, 4.17)
abbrev pub last_scope : CodeBytes → Scope
last_scope i = record { start = Ending; condition = always; index = i }

-- a full record at an RVA whose head and scopes have been read
abbrev pub full_of : Lent → ℕ → Head → List Scope → Shape
full_of x a h listed =
    record { span = span_of h.word; codes = take (code_word_bytes h.codewords).0 (drop (a + codes_offset h - x.base) x.bytes); fragment = F h; scopes = if E h then last_scope (code_bytes h.count) ∷ [] else listed; handler = handler_at x a h }

unfoldable pub full_shape : Lent → ℕ → Res Shape
full_shape x a = do
  h ← head_at x a
  listed ← scopes_at x (a + h.bytes) (scope_count h)
  Ok (full_of x a h listed)

-- a packed record is the record of the codes that its writer writes, with that one epilogue unless Ret=3 (RULES 4.17)
unfoldable pub packed_shape : ℕ → Res Shape
packed_shape w = do
  c ← write_codes w
  let p = fields w
  Ok (record { span = packed_span p; codes = c.bytes; fragment = packed_fragment p; scopes = if eqb p.ret 3 then [] else last_scope c.first ∷ []; handler = 0 })

-- by Flag: with 0 the word leads to a full record, else it is packed (RULES 2.2)
abbrev pub shape_at : Lent → (word : ℕ) → Res Shape
shape_at x w = if eqb (bits 0 2 w) 0 then full_shape x w else packed_shape w

abbrev pub shape_of : Lent → Entry → Res Shape
shape_of x e = shape_at x e.word
