-- A record's shape as plain values and parts of slices: the plan of a full record and of a packed one, and the shape that a plan stands
-- for, beside the code bytes and the .xdata. That it is the record's shape is a law (`read-shape` of proofs/Shapes.antt).
use Rattle.std.specs.Prelude.{ℕ, zero, suc, ◌+◌, ◌-◌, ◌*◌, List, ◌∷◌, [], take, drop, eqb, if◌then◌else◌, Ok}
use Rattle.lent.specs.Lent.{Lent}
use Rattle.lent.specs.Little.{word32}
use Rattle.words.specs.Bits.{bits}
use Rattle.words.specs.Units.{code_bytes, code_word_bytes}
use Rattle.words.specs.declared.CodeBytes.{CodeBytes}
use Rattle.words.specs.Answer.{Res, ◌>>=◌}
use Rattle.unwinding.specs.Shape.{Shape}
use Rattle.unwinding.specs.declared.Scope.{Scope}
use Rattle.xdata.specs.Xdata.{E, F, scope_count, codes_offset, span_of, handler_at, head_at}
use Rattle.packed.specs.Packed.{fields, packed_span, packed_fragment}
use Rattle.packed_codes.specs.PackedCodes.{write_codes}
use Rattle.record.specs.Record.{last_scope}
use Rattle.xdata.specs.Scopes.{scope_of, scopes_at}
use Rattle.xdata.specs.declared.Head.{Head}
use Rattle.packed.specs.declared.Packed.{Packed}
use Rattle.packed_codes.specs.declared.CodesOf.{CodesOf}
use Rattle.record.specs.declared.Scopes.{Scopes}
use Rattle.record.specs.declared.Scopes.TheVariants.{Ending, Listed}
use Rattle.record.specs.declared.Plan.{Plan}
use Rattle.record.specs.declared.Codes.{Codes}
use Rattle.record.specs.declared.Record.{Record}

-- the scope of a number
abbrev pub scope_in : Scopes → (xdata : List ℕ) → ℕ → Scope
scope_in (Ending i) s k = last_scope i
scope_in (Listed at) s k = scope_of (word32 s (at + 4 * k))

-- where the words of n scopes end in the .xdata
abbrev pub scopes_end : Scopes → (n : ℕ) → ℕ
scopes_end (Ending i) n = 0
scopes_end (Listed at) n = at + 4 * n

-- n scopes, the first of which has this number
unfoldable pub scopes_from : Scopes → (xdata : List ℕ) → (number n : ℕ) → List Scope
scopes_from c s k zero = []
scopes_from c s k (suc n) = scope_in c s k ∷ scopes_from c s (k + 1) n

-- the shape that a plan stands for
abbrev pub shape_by : Plan → (codes xdata : List ℕ) → Shape
shape_by p codes s =
    record { span = p.span; codes = codes; fragment = p.fragment; scopes = scopes_from p.scopes s 0 p.count; handler = p.handler }

-- a full record at an RVA whose head was read
abbrev pub scopes_of : (offset : ℕ) → Head → Scopes
scopes_of o h = if E h then Ending (code_bytes h.count) else Listed (o + h.bytes)

abbrev pub plan_of : Lent → ℕ → Head → Plan
plan_of x a h =
    record { span = span_of h.word; fragment = F h; count = if E h then 1 else h.count; scopes = scopes_of (a - x.base) h; handler = handler_at x a h }

abbrev pub full_by : Lent → ℕ → Head → Record
full_by x a h =
    record { plan = plan_of x a h; codes = Codes.Lent (record { start = a - x.base + codes_offset h; len = (code_word_bytes h.codewords).0 }) }

-- the Res of the scopes behind a head (RULES 9.52), and then its record
abbrev pub after_head : Lent → ℕ → Head → Res Record
after_head x a h = do
  listed ← scopes_at x (a + h.bytes) (scope_count h)
  Ok (full_by x a h)

unfoldable pub full_plan : Lent → ℕ → Res Record
full_plan x a = do
  h ← head_at x a
  after_head x a h

-- a packed record: one epilogue, which ends with the function, unless Ret=3 (RULES 4.17)
abbrev pub packed_plan_by : Packed → (first : CodeBytes) → Plan
packed_plan_by p i =
    record { span = packed_span p; fragment = packed_fragment p; count = if eqb p.ret 3 then 0 else 1; scopes = Ending i; handler = 0 }

abbrev pub packed_by : ℕ → CodesOf → Record
packed_by w c = record { plan = packed_plan_by (fields w) c.first; codes = Codes.Written c.bytes }

unfoldable pub packed_plan : ℕ → Res Record
packed_plan w = do
  c ← write_codes w
  Ok (packed_by w c)

-- a record of either kind, by word 1 of a .pdata record, which has Flag 0 for a full one
abbrev pub read_of : Lent → (word : ℕ) → Res Record
read_of x w = if eqb (bits 0 2 w) 0 then full_plan x w else packed_plan w

-- its code bytes, and where they end in the .xdata
abbrev pub codes_in : Codes → (xdata : List ℕ) → List ℕ
codes_in (Codes.Written bytes) s = bytes
codes_in (Codes.Lent part) s = take part.len (drop part.start s)

abbrev pub codes_end : Codes → ℕ
codes_end (Codes.Written bytes) = 0
codes_end (Codes.Lent part) = part.start + part.len

-- the shape that it stands for, or its refusal
abbrev pub read_shape : (xdata : List ℕ) → Res Record → Res Shape
read_shape s r = do
  f ← r
  Ok (shape_by f.plan (codes_in f.codes s) s)
