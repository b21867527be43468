-- Order 4 by examples: records with C=1 at offsets of their prologues, before the order and now (RULES 4.22).
-- Assumes nothing.
use Rattle.std.specs.Prelude.{Ok, Err}
use Prim.Native.Nat.{ℕ, ◌+◌, ◌^◌}
use mathlib.Core.Path.{◌≡◌, refl}
use mathlib.Core.List.{[], ◌∷◌, ◌++◌}
use lib.ListN.{replicate}
use Rattle.lent.specs.Lent.{Lent}
use Rattle.lent.proofs.Bytes.{bytes_of}
use Rattle.words.specs.Units.{stack_words, code_bytes}
use Rattle.words.specs.declared.Place.TheVariants.{Prologue, Body, Epilogue}
use Rattle.words.specs.declared.Refusal.TheVariants.{BadLayout, InsideInstruction}
use Rattle.words.specs.Answer.{Res}
use Rattle.unwinding.specs.Todo.{Todo}
use Rattle.codes.specs.Table.{bits16, bits32}
use Rattle.codes.specs.declared.Code.{Code}
use Rattle.codes.specs.declared.Undo.TheVariants.{Up, Pop, Vpop}
use Rattle.machine.specs.declared.Regs.{Regs}
use Rattle.packed_codes.specs.PackedCodes.{write_codes}
use Rattle.packed_codes.specs.Chain.{first_before, nop}
use Rattle.record.specs.Record.{packed_shape}
use Rattle.record.proofs.At.{at, says}
use Rattle.listing.proofs.Opened.{opened}
use Rattle.demands.specs.Chain.{shape_before, now, before}

-- what an offset says now, and what it said
abbrev is : (word offset : ℕ) → Res (Todo Code)
is w o = at (packed_shape w) o

abbrev was : (word offset : ℕ) → Res (Todo Code)
was w o = at (shape_before w) o

-- push.w {r11,lr}; sub sp,#8; vpush {d8,d9}; push {r0-r3}
abbrev pushed : Code
pushed = record { undo = Pop (2 ^ 11 + 2 ^ 14); size = bits32 }

abbrev room : Code
room = record { undo = Up (stack_words 2); size = bits16 }

abbrev vpushed : Code
vpushed = record { undo = Vpop 8 9; size = bits32 }

abbrev homed : Code
homed = record { undo = Up (stack_words 4); size = bits16 }

-- ---- push.w {r11,lr}; mov r11,sp; sub sp,#8, in a function of 32 bytes
abbrev plain : ℕ
plain = 0x00BF0041

plain-codes :
    write_codes plain
    ≡ Ok (record { bytes = 0x02 ∷ 0xFB ∷ 0xA8 ∷ 0x00 ∷ 0xFF ∷ 0x02 ∷ 0xA8 ∷ 0x00 ∷ 0xFF ∷ replicate 7 0; first = code_bytes 5; second = code_bytes 4 })
unfolding opened
plain-codes = refl

plain-0 : (is plain 0 ≡ says Prologue []) × (was plain 0 ≡ says Prologue [])
unfolding opened shape_before first_before
plain-0 = (refl, refl)

plain-2 : (is plain 2 ≡ Err InsideInstruction) × (was plain 2 ≡ Err InsideInstruction)
unfolding opened shape_before first_before
plain-2 = (refl, refl)

plain-4 : (is plain 4 ≡ says Prologue (pushed ∷ [])) × (was plain 4 ≡ says Prologue (pushed ∷ []))
unfolding opened shape_before first_before
plain-4 = (refl, refl)

-- behind mov r11,sp: refused before
plain-6 : (is plain 6 ≡ says Prologue (nop bits16 ∷ pushed ∷ [])) × (was plain 6 ≡ Err InsideInstruction)
unfolding opened shape_before first_before
plain-6 = (refl, refl)

-- behind sub sp,#8: before, the sub was not undone, and another caller was found
plain-8 : (is plain 8 ≡ says Body (room ∷ nop bits16 ∷ pushed ∷ [])) × (was plain 8 ≡ says Prologue (nop bits32 ∷ pushed ∷ []))
unfolding opened shape_before first_before
plain-8 = (refl, refl)

plain-10 : (is plain 10 ≡ says Body (room ∷ nop bits16 ∷ pushed ∷ [])) × (was plain 10 ≡ says Body (room ∷ nop bits32 ∷ pushed ∷ []))
unfolding opened shape_before first_before
plain-10 = (refl, refl)

-- entered with r11 = 0x11, LR = 0x401101 and SP = 0x20020 and stopped behind the sub, its two words 0xA and 0xB
abbrev stack : Lent
stack = record { base = 0x20000; bytes = bytes_of (0 ∷ 0 ∷ 0 ∷ 0 ∷ 0xA ∷ 0xB ∷ 0x11 ∷ 0x401101 ∷ []) }

abbrev regs : (r11 sp lr pc : ℕ) → Regs
regs x s l c = record { r = replicate 11 0 ++ (x ∷ 0 ∷ []); sp = s; lr = l; pc = c; d = replicate 32 0 }

abbrev stopped : Regs
stopped = regs 0x20018 0x20010 0x401101 0x401008

-- the entry's SP, r11 and return address now; before, SP 8 less, and two words of the function's own for r11 and the return address
caller-is : now stack plain 8 stopped ≡ Ok (record { regs = regs 0x11 0x20020 0x401101 0x401100; place = Body; handler = 0; codes = 3 })
unfolding opened
caller-is = refl

caller-was : before stack plain 8 stopped ≡ Ok (record { regs = regs 0xA 0x20018 0xB 0xA; place = Prologue; handler = 0; codes = 2 })
unfolding opened shape_before first_before
caller-was = refl

-- ---- with d8, d9 and H=1: push {r0-r3}; push.w {r11,lr}; mov r11,sp; vpush {d8,d9}; sub sp,#8
abbrev vectors : ℕ
vectors = 0x00B98041

vectors-0 : (is vectors 0 ≡ says Prologue []) × (was vectors 0 ≡ says Prologue [])
unfolding opened shape_before first_before
vectors-0 = (refl, refl)

vectors-2 : (is vectors 2 ≡ says Prologue (homed ∷ [])) × (was vectors 2 ≡ says Prologue (homed ∷ []))
unfolding opened shape_before first_before
vectors-2 = (refl, refl)

vectors-4 : (is vectors 4 ≡ Err InsideInstruction) × (was vectors 4 ≡ Err InsideInstruction)
unfolding opened shape_before first_before
vectors-4 = (refl, refl)

vectors-6 : (is vectors 6 ≡ says Prologue (pushed ∷ homed ∷ [])) × (was vectors 6 ≡ says Prologue (pushed ∷ homed ∷ []))
unfolding opened shape_before first_before
vectors-6 = (refl, refl)

vectors-8 : (is vectors 8 ≡ says Prologue (nop bits16 ∷ pushed ∷ homed ∷ [])) × (was vectors 8 ≡ Err InsideInstruction)
unfolding opened shape_before first_before
vectors-8 = (refl, refl)

vectors-10 : (is vectors 10 ≡ Err InsideInstruction) × (was vectors 10 ≡ says Prologue (nop bits32 ∷ pushed ∷ homed ∷ []))
unfolding opened shape_before first_before
vectors-10 = (refl, refl)

vectors-12 : (is vectors 12 ≡ says Prologue (vpushed ∷ nop bits16 ∷ pushed ∷ homed ∷ [])) × (was vectors 12 ≡ Err InsideInstruction)
unfolding opened shape_before first_before
vectors-12 = (refl, refl)

vectors-14 : (is vectors 14 ≡ says Body (room ∷ vpushed ∷ nop bits16 ∷ pushed ∷ homed ∷ [])) × (was vectors 14 ≡ says Prologue (vpushed ∷ nop bits32 ∷ pushed ∷ homed ∷ []))
unfolding opened shape_before first_before
vectors-14 = (refl, refl)

-- ---- PF=1: push.w {r3,r11,lr}; add r11,sp,#4, of 32 bits as before
abbrev folded : ℕ
folded = 0xFF3F0041

folded-codes :
    write_codes folded
    ≡ Ok (record { bytes = 0xFC ∷ 0xA8 ∷ 0x08 ∷ 0xFF ∷ 0xA8 ∷ 0x08 ∷ 0xFF ∷ replicate 9 0; first = code_bytes 4; second = code_bytes 3 })
unfolding opened
folded-codes = refl

abbrev pushed3 : Code
pushed3 = record { undo = Pop (2 ^ 3 + 2 ^ 11 + 2 ^ 14); size = bits32 }

folded-4 : (is folded 4 ≡ says Prologue (pushed3 ∷ [])) × (was folded 4 ≡ says Prologue (pushed3 ∷ []))
unfolding opened shape_before first_before
folded-4 = (refl, refl)

folded-6 : (is folded 6 ≡ Err InsideInstruction) × (was folded 6 ≡ Err InsideInstruction)
unfolding opened shape_before first_before
folded-6 = (refl, refl)

folded-8 : (is folded 8 ≡ says Body (nop bits32 ∷ pushed3 ∷ [])) × (was folded 8 ≡ says Body (nop bits32 ∷ pushed3 ∷ []))
unfolding opened shape_before first_before
folded-8 = (refl, refl)

-- ---- r4, r11 and LR: FC too
others-codes :
    write_codes 0x00300041
    ≡ Ok (record { bytes = 0xFC ∷ 0xA8 ∷ 0x10 ∷ 0xFF ∷ 0xA8 ∷ 0x10 ∷ 0xFF ∷ replicate 9 0; first = code_bytes 4; second = code_bytes 3 })
unfolding opened
others-codes = refl

-- ---- 7: push.w {r11,lr}; mov r11,sp; pop.w {r11,pc} in 10 bytes, which had no room before; in 8 they have none now
tight : (is 0x003F0015 6 ≡ Ok (record { place = Epilogue; codes = pushed ∷ [] })) × (was 0x003F0015 6 ≡ Err BadLayout)
unfolding opened shape_before first_before
tight = (refl, refl)

too-tight : is 0x003F0011 6 ≡ Err BadLayout
unfolding opened
too-tight = refl
