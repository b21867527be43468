-- Which byte 6 tells: lists that are bad in each way, and records of which two lists are bad.
-- Assumes nothing.
use Rattle.std.specs.Prelude.{Err}
use Prim.Native.Nat.{ℕ}
use mathlib.Core.Path.{◌≡◌, refl}
use mathlib.Core.Bool.{false}
use mathlib.Core.List.{List, [], ◌∷◌}
use native.Mathlib.Omega.{arith}
use Rattle.words.specs.Units.{code_bytes}
use Rattle.words.specs.declared.Refusal.TheVariants.{BadCodes}
use Rattle.words.specs.Answer.{Res}
use Rattle.unwinding.specs.CodeList.{Codes}
use Rattle.unwinding.specs.Shape.{Shape}
use Rattle.unwinding.specs.View.{View, view}
use Rattle.unwinding.specs.declared.Scope.{Scope}
use Rattle.unwinding.specs.declared.Start.TheVariants.{From}
use Rattle.codes.specs.Code.{size, codes_at}
use Rattle.codes.specs.Condition.{always}
use Rattle.codes.specs.declared.Code.{Code}
use Rattle.codes.specs.declared.Meaning.TheVariants.{Does}
use Rattle.codes.specs.declared.Undo.TheVariants.{Nothing}
use Rattle.codes.proofs.Opened.{opened}
use Rattle.bad_byte.specs.Lists.{Whole, Decodes, Reads, Bad}
use Rattle.bad_byte.specs.Records.{here, later, FirstBad}

abbrev at : List ℕ → ℕ → Res (Codes Code)
at s i = codes_at s (code_bytes i)

abbrev byte : {A : Type 0} → ℕ → Res A
byte j = Err (BadCodes (code_bytes j))

-- a code that is undefined by its first byte, by its second, or as the last byte tells where it begins
undefined-1 : at (0xFB ∷ 0xEE ∷ 0xFF ∷ []) 0 ≡ byte 1
unfolding opened
undefined-1 = refl

undefined-load : at (0xEF ∷ 0x10 ∷ 0xFF ∷ []) 0 ≡ byte 0
unfolding opened
undefined-load = refl

undefined-vpop : at (0xF5 ∷ 0x10 ∷ 0xFF ∷ []) 0 ≡ byte 0
unfolding opened
undefined-vpop = refl

undefined-last : at (0xFB ∷ 0xCD ∷ []) 0 ≡ byte 1
unfolding opened
undefined-last = refl

-- that index is the record's, and not counted from where the list begins
undefined-absolute : at (0xFF ∷ 0xFB ∷ 0xEE ∷ 0xFF ∷ []) 1 ≡ byte 2
unfolding opened
undefined-absolute = refl

-- a code cut short and a list without an end tell how many bytes there are
cut_short : at (0xFB ∷ 0xEF ∷ []) 0 ≡ byte 2
unfolding opened
cut_short = refl

no_end : at (0xFB ∷ 0xFB ∷ []) 0 ≡ byte 2
unfolding opened
no_end = refl

-- an index past the bytes tells itself
just-past : at (0xFF ∷ 0 ∷ 0 ∷ 0 ∷ []) 4 ≡ byte 4
unfolding opened
just-past = refl

far-past : at (0xFF ∷ 0 ∷ 0 ∷ 0 ∷ []) 9 ≡ byte 9
unfolding opened
far-past = refl

-- ---- the same by the definition, one for each way
-- FB, of one byte, and what is behind it
nop : (s : List ℕ) → Whole (0xFB ∷ s) 0 (Does Nothing)
unfolding opened
nop s = record { code = record { first = 0xFB; behind = s; here = refl }; there = omega arith; means = refl }

defined-undefined : Bad (0xFB ∷ 0xEE ∷ 0xFF ∷ []) 0 1
unfolding opened nop
defined-undefined =
    Bad.undefined 1 (Decodes.one 0 1 Nothing (nop (0xEE ∷ 0xFF ∷ [])) (Decodes.none 1))
    (record { code = record { first = 0xEE; behind = 0xFF ∷ []; here = refl }; there = omega arith; means = refl })

defined-cut : Bad (0xFB ∷ 0xEF ∷ []) 0 2
unfolding opened nop
defined-cut =
    Bad.cut 1 (Decodes.one 0 1 Nothing (nop (0xEF ∷ [])) (Decodes.none 1)) (record { code = record { first = 0xEF; behind = []; here = refl }; short = omega arith })

defined-endless : Bad (0xFB ∷ []) 0 1
unfolding opened nop
defined-endless = Bad.endless (Decodes.one 0 1 Nothing (nop []) (Decodes.none 1))

defined-past : Bad (0xFF ∷ 0 ∷ 0 ∷ 0 ∷ []) 9 9
defined-past = Bad.past (omega arith)

-- ---- records
abbrev scope : ℕ → Scope
scope i = record { start = From 0; condition = always; index = code_bytes i }

abbrev shape : List ℕ → List Scope → Shape
shape s es = record { span = 40; codes = s; fragment = false; scopes = es; handler = 0 }

abbrev viewed : Shape → Res (View Code)
viewed sh = view size codes_at sh

-- of two bad scopes the first, be its byte the higher or the lower
abbrev two : List ℕ
two = 0xFF ∷ 0xFB ∷ 0xEE ∷ 0xFF ∷ 0xF1 ∷ 0xFF ∷ 0xFF ∷ 0xFF ∷ []

higher-first : viewed (shape two (scope 4 ∷ scope 1 ∷ [])) ≡ byte 4
unfolding opened
higher-first = refl

lower-first : viewed (shape two (scope 1 ∷ scope 4 ∷ [])) ≡ byte 2
unfolding opened
lower-first = refl

-- a scope that can be read is passed over
read_first : viewed (shape two (scope 3 ∷ scope 4 ∷ [])) ≡ byte 4
unfolding opened
read_first = refl

-- the list from 0 before a scope whose byte is lower: EE is the second byte of a pop, and a code of the scope
zero-first : viewed (shape (0x80 ∷ 0xEE ∷ 0xCD ∷ 0xFF ∷ []) (scope 1 ∷ [])) ≡ byte 2
unfolding opened
zero-first = refl

-- by the definition: all before it are read
end-0 : Reads two 0
unfolding opened
end-0 = record { at = 0; before = Decodes.none 0; end = record { code = record { first = 0xFF; behind = _; here = refl }; there = omega arith; means = refl } }

defined-first : FirstBad (shape two (scope 4 ∷ scope 1 ∷ [])) 4
unfolding opened
defined-first =
    later end-0
    (here (Bad.undefined 4 (Decodes.none 4) (record { code = record { first = 0xF1; behind = _; here = refl }; there = omega arith; means = refl })))
