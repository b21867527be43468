-- A machine of the simplest kind, to see the rules of place by computation: a code is a byte and is the size of its instruction, the list
-- from an index is all that follows, and its end code stands for an instruction of 2 bytes. Epilogues of condition 1 execute.
-- Assumes nothing.
use Rattle.std.specs.Prelude.{if◌then◌else◌, Ok, Err}
use Prim.Native.Nat.{ℕ}
use mathlib.Core.Path.{◌≡◌, refl}
use mathlib.Core.List.{List, ◌∷◌, []}
use mathlib.Core.Bool.{Bool, true, false}
use lib.ListN.{drop, length}
use lib.Dec.{leb, eqb}
use Rattle.words.specs.Units.{code_bytes}
use Rattle.words.specs.declared.CodeBytes.{CodeBytes}
use Rattle.words.specs.declared.Place.{Place}
use Rattle.words.specs.declared.Place.TheVariants.{Prologue, Body, Epilogue}
use Rattle.words.specs.declared.Refusal.TheVariants.{BadCodes, BadLayout, InsideInstruction, Conditional}
use Rattle.words.specs.Answer.{Res, ◌>>=◌}
use Rattle.unwinding.specs.CodeList.{Codes}
use Rattle.unwinding.specs.Shape.{Shape}
use Rattle.unwinding.specs.View.{view}
use Rattle.unwinding.specs.Todo.{Todo, todo}
use Rattle.unwinding.specs.declared.Scope.{Scope}
use Rattle.unwinding.specs.declared.Start.{Start}
use Rattle.unwinding.specs.declared.Start.TheVariants.{From, Ending}
use Rattle.unwinding.proofs.Opened.{opened}

abbrev read : List ℕ → CodeBytes → Res (Codes ℕ)
read s i = if leb i.0 (length s) then Ok (record { list = drop i.0 s; end_size = 2 }) else Err (BadCodes i)

abbrev scope : Start → (condition index : ℕ) → Scope
scope a c i = record { start = a; condition = c; index = code_bytes i }

abbrev shape : (fragment : Bool) → List Scope → Shape
shape f ss = record { span = 40; codes = 2 ∷ 4 ∷ 2 ∷ []; fragment = f; scopes = ss; handler = 0 }

abbrev always : ℕ
always = 1

abbrev may : ℕ → Bool
may c = eqb c always

abbrev at : Shape → ℕ → Res (Todo ℕ)
at s o = view (λ c. c) read s >>= λ v. todo (λ c. c) may v o

abbrev says : Place → List ℕ → Res (Todo ℕ)
says p l = Ok (record { place = p; codes = l })

-- a prologue of 8 bytes; an epilogue of 10 that ends with the function
abbrev whole : Shape
whole = shape false (scope Ending always 0 ∷ [])

-- after the first instruction, of 2 bytes, the last code is undone; then the last two; inside an instruction 9
prologue-0 : at whole 0 ≡ says Prologue []
unfolding opened
prologue-0 = refl

prologue-2 : at whole 2 ≡ says Prologue (2 ∷ [])
unfolding opened
prologue-2 = refl

prologue-4 : at whole 4 ≡ Err InsideInstruction
unfolding opened
prologue-4 = refl

prologue-6 : at whole 6 ≡ says Prologue (4 ∷ 2 ∷ [])
unfolding opened
prologue-6 = refl

-- the end code's size is no part of the prologue
body-8 : at whole 8 ≡ says Body (2 ∷ 4 ∷ 2 ∷ [])
unfolding opened
body-8 = refl

-- in the epilogue the codes of the instructions done are skipped; on the end code's own instruction nothing is left
epilogue-30 : at whole 30 ≡ says Epilogue (2 ∷ 4 ∷ 2 ∷ [])
unfolding opened
epilogue-30 = refl

epilogue-32 : at whole 32 ≡ says Epilogue (4 ∷ 2 ∷ [])
unfolding opened
epilogue-32 = refl

epilogue-38 : at whole 38 ≡ says Epilogue []
unfolding opened
epilogue-38 = refl

epilogue-39 : at whole 39 ≡ Err InsideInstruction
unfolding opened
epilogue-39 = refl

-- a fragment has no prologue
fragment-0 : at (shape true (scope Ending always 0 ∷ [])) 0 ≡ says Body (2 ∷ 4 ∷ 2 ∷ [])
unfolding opened
fragment-0 = refl

-- 10 only inside the conditional epilogue, and after 9
conditional-30 : at (shape false (scope (From 30) 0 0 ∷ [])) 30 ≡ Err Conditional
unfolding opened
conditional-30 = refl

conditional-31 : at (shape false (scope (From 30) 0 0 ∷ [])) 31 ≡ Err InsideInstruction
unfolding opened
conditional-31 = refl

conditional-20 : at (shape false (scope (From 30) 0 0 ∷ [])) 20 ≡ says Body (2 ∷ 4 ∷ 2 ∷ [])
unfolding opened
conditional-20 = refl

-- 7: an epilogue past the end, one over the prologue, two that share, starts that do not ascend
layout-past : at (shape false (scope (From 32) always 0 ∷ [])) 20 ≡ Err BadLayout
unfolding opened
layout-past = refl

layout-prologue : at (shape false (scope (From 6) always 0 ∷ [])) 20 ≡ Err BadLayout
unfolding opened
layout-prologue = refl

layout-shared : at (shape false (scope (From 10) always 0 ∷ scope (From 18) always 0 ∷ [])) 9 ≡ Err BadLayout
unfolding opened
layout-shared = refl

layout-order : at (shape false (scope (From 30) always 0 ∷ scope (From 10) always 0 ∷ [])) 9 ≡ Err BadLayout
unfolding opened
layout-order = refl

-- touching is not sharing
layout-touching : at (shape false (scope (From 10) always 0 ∷ scope (From 20) always 1 ∷ [])) 20 ≡ says Epilogue (4 ∷ 2 ∷ [])
unfolding opened
layout-touching = refl

-- 6 of a later scope before 7 of an earlier one; 7 before 9
order-6-7 : at (shape false (scope (From 32) always 0 ∷ scope (From 10) always 9 ∷ [])) 20 ≡ Err (BadCodes (code_bytes 9))
unfolding opened
order-6-7 = refl

order-7-9 : at (shape false (scope (From 32) always 0 ∷ [])) 4 ≡ Err BadLayout
unfolding opened
order-7-9 = refl

-- 6 of a scope before 7 of the prologue, which is longer than the function; of two bad scopes the first
abbrev short : List Scope → Shape
short ss = record { span = 4; codes = 2 ∷ 4 ∷ 2 ∷ []; fragment = false; scopes = ss; handler = 0 }

order-7-prologue : at (short []) 2 ≡ Err BadLayout
unfolding opened
order-7-prologue = refl

order-6-prologue : at (short (scope (From 0) always 8 ∷ scope (From 0) always 9 ∷ [])) 2 ≡ Err (BadCodes (code_bytes 8))
unfolding opened
order-6-prologue = refl
