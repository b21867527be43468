-- The seven examples of Microsoft's page as computed vectors (RULES 11.4), with packed forms that are easily mistaken (RULES 4.12).
-- Assumes nothing.
use Rattle.std.specs.Prelude.{Ok, Err}
use Prim.Native.Nat.{ℕ, ◌+◌, ◌^◌}
use mathlib.Core.Path.{◌≡◌, refl}
use mathlib.Core.List.{List, ◌∷◌, ◌++◌, []}
use lib.ListN.{replicate, length}
use Rattle.lent.specs.Lent.{Lent}
use Rattle.words.specs.Units.{halfwords, stack_words, code_bytes}
use Rattle.words.specs.declared.Place.TheVariants.{Prologue, Body, Epilogue}
use Rattle.words.specs.declared.Refusal.TheVariants.{InsideInstruction}
use Rattle.words.specs.Answer.{Res, ◌>>=◌}
use Rattle.codes.specs.declared.Code.{Code}
use Rattle.codes.specs.declared.Undo.{Undo}
use Rattle.codes.specs.declared.Undo.TheVariants.{Up, Pop, SpFrom}
use Rattle.packed_codes.specs.declared.CodesOf.{CodesOf}
use Rattle.packed.specs.declared.Packed.{Packed}
use Rattle.packed.specs.Packed.{write_word}
use Rattle.packed_codes.specs.PackedCodes.{write_codes}
use Rattle.xdata.specs.Xdata.{xdata_size}
use Rattle.record.specs.Record.{full_shape}
use Rattle.record.proofs.Opened.{opened}
use Rattle.lent.proofs.Bytes.{bytes_of}
use Rattle.record.proofs.At.{at, says}

abbrev wrote : (first second : List ℕ) → (rest : ℕ) → Res CodesOf
wrote a b n =
    Ok (record { bytes = a ++ b ++ replicate n 0; first = code_bytes (length a); second = code_bytes (length b) })

abbrev codes_of : Packed → Res CodesOf
codes_of p = write_word p >>= write_codes

-- Flag 1, Stack Adjust and C 0 unless said
abbrev fields : (length ret h reg r l adjust : ℕ) → Packed
fields n ret h reg r l a = record { flag = 1; length = halfwords n; ret = ret; h = h; reg = reg; r = r; l = l; c = 0; adjust = a }

abbrev narrow : Undo → Code
narrow u = record { undo = u; size = halfwords 1 }

abbrev wide : Undo → Code
wide u = record { undo = u; size = halfwords 2 }

-- example 1: push {r4-r5}; pop {r4-r5}; bx lr
page-1 : codes_of (fields 0x31 1 0 1 0 0 0) ≡ wrote (0xD1 ∷ 0xFF ∷ []) (0xD1 ∷ 0xFD ∷ []) 12
unfolding opened
page-1 = refl

-- example 2: push {r4-r7, lr}; sub sp,#0xC
page-2 : codes_of (fields 0x35 0 0 3 0 1 3) ≡ wrote (0x03 ∷ 0xD7 ∷ 0xFF ∷ []) (0x03 ∷ 0xD7 ∷ 0xFF ∷ []) 10
unfolding opened
page-2 = refl

-- example 3: push {r0-r3}; push {r4-r6, lr}; pop {r4-r6}, of 16 bits; ldr pc,[sp],#0x14
page-3 : codes_of (fields 0x2A 0 1 2 0 1 0) ≡ wrote (0xD6 ∷ 0x04 ∷ 0xFF ∷ []) (0xD2 ∷ 0xEF ∷ 0x05 ∷ 0xFF ∷ []) 9
unfolding opened
page-3 = refl

-- example 7, with R=1 where the page has 0: push {lr}; sub sp,#4
page-7 : codes_of (fields 0x0B 0 0 7 1 1 1) ≡ wrote (0x01 ∷ 0xED ∷ 0x00 ∷ 0xFF ∷ []) (0x01 ∷ 0xED ∷ 0x00 ∷ 0xFF ∷ []) 8
unfolding opened
page-7 = refl

-- pop {r4,lr} before bx lr is no 16-bit instruction, though D4 says 16
pop-lr : codes_of (fields 0x10 1 0 0 0 1 0) ≡ wrote (0xD4 ∷ 0xFF ∷ []) (0xA0 ∷ 0x10 ∷ 0xFD ∷ []) 11
unfolding opened
pop-lr = refl

-- example 4: four epilogues over one code list, 06 DE FF
abbrev four : Lent
four = record { base = 0x1000; bytes = bytes_of (0x120001A3 ∷ 0x00E00011 ∷ 0x00E000A5 ∷ 0x00E00170 ∷ 0x00E00189 ∷ 0x00FFDE06 ∷ []) }

page-4-size : xdata_size four 0x1000 ≡ Ok 24
unfolding opened
page-4-size = refl

abbrev c06 : Code
c06 = narrow (Up (stack_words 6))

abbrev c_de : Code
c_de = wide (Pop (0x7F0 + 2 ^ 14))

page-4-prologue : at (full_shape four 0x1000) 4 ≡ says Prologue (c_de ∷ [])
unfolding opened
page-4-prologue = refl

page-4-third : at (full_shape four 0x1000) 0x2E2 ≡ says Epilogue (c_de ∷ [])
unfolding opened
page-4-third = refl

page-4-inside : at (full_shape four 0x1000) 0x2E4 ≡ Err InsideInstruction
unfolding opened
page-4-inside = refl

page-4-last : at (full_shape four 0x1000) 0x342 ≡ says Body (c06 ∷ c_de ∷ [])
unfolding opened
page-4-last = refl

-- example 5, with the length 0x207 that its code has: SP = r6 and more of a prologue that changes SP without codes
abbrev dynamic : Lent
dynamic = record { base = 0x1000; bytes = bytes_of (0x10800207 ∷ 0x00E000C6 ∷ 0xFD04DCC6 ∷ []) }

abbrev c04 : Code
c04 = narrow (Up (stack_words 4))

abbrev c_dc : Code
c_dc = wide (Pop (0x1F0 + 2 ^ 14))

page-5-body : at (full_shape dynamic 0x1000) 0x100 ≡ says Body (narrow (SpFrom 6) ∷ c_dc ∷ c04 ∷ [])
unfolding opened
page-5-body = refl

page-5-epilogue : at (full_shape dynamic 0x1000) 0x18E ≡ says Epilogue (c_dc ∷ c04 ∷ [])
unfolding opened
page-5-epilogue = refl

page-5-bx : at (full_shape dynamic 0x1000) 0x194 ≡ says Epilogue []
unfolding opened
page-5-bx = refl

-- example 6: X=1, E=1, and the handler's RVA after the codes
abbrev handled : Lent
handled = record { base = 0x1000; bytes = bytes_of (0x20300027 ∷ 0x90ED05C7 ∷ 0x000000FF ∷ 0x0019A7ED ∷ []) }

page-6-size : xdata_size handled 0x1000 ≡ Ok 16
unfolding opened
page-6-size = refl

page-6-handler : (full_shape handled 0x1000 >>= λ s. Ok s.handler) ≡ Ok 0x0019A7ED
unfolding opened
page-6-handler = refl

page-6-epilogue : at (full_shape handled 0x1000) 0x4C ≡ says Epilogue (narrow (Pop (2 ^ 4 + 2 ^ 7 + 2 ^ 14)) ∷ [])
unfolding opened
page-6-epilogue = refl
