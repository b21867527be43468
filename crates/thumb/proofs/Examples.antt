-- Instructions as assemblers write them, computed: each row has one at least, and what the manual calls unpredictable is none.
-- Assumes nothing.
use Prim.Native.Nat.{ℕ}
use mathlib.Core.Path.{◌≡◌, refl}
use mathlib.Core.List.{List, [], ◌∷◌}
use Rattle.words.specs.Bits.{bits}
use Rattle.words.specs.Units.{halfwords}
use Rattle.thumb.specs.declared.Action.{Action}
use Rattle.thumb.specs.declared.Action.TheVariants.{Push, Pop, Vpush, Vpop, SubSp, AddSp, Mov, Store, Load, Bx, Branch, Other}
use Rattle.thumb.specs.declared.Instruction.{Instruction}
use Rattle.thumb.specs.Instruction.{no_instruction, instruction_at}
use Rattle.thumb.proofs.Opened.{opened}

-- halfwords as bytes, and the instruction that they are
abbrev bytes_of : List ℕ → List ℕ
bytes_of [] = []
bytes_of (h ∷ hs) = bits 0 8 h ∷ bits 8 8 h ∷ bytes_of hs

abbrev of : ℕ → Instruction
of h = instruction_at (bytes_of (h ∷ [])) 0

abbrev of2 : ℕ → ℕ → Instruction
of2 h k = instruction_at (bytes_of (h ∷ k ∷ [])) 0

abbrev short : Action → Instruction
short a = record { action = a; size = halfwords 1 }

abbrev long : Action → Instruction
long a = record { action = a; size = halfwords 2 }

-- push {r4-r7, lr}; push.w {r4-r11, lr}; push.w {lr}
pushes : (of 0xB5F0 ≡ short (Push 0x40F0)) × (of2 0xE92D 0x4FF0 ≡ long (Push 0x4FF0)) × (of2 0xF84D 0xED04 ≡ long (Push 0x4000))
unfolding opened
pushes = (refl, refl, refl)

-- pop {r4-r7, pc}; pop.w {r4-r11, pc}; pop.w {pc}
pops : (of 0xBDF0 ≡ short (Pop 0x80F0)) × (of2 0xE8BD 0x8FF0 ≡ long (Pop 0x8FF0)) × (of2 0xF85D 0xFB04 ≡ long (Pop 0x8000))
unfolding opened
pops = (refl, refl, refl)

-- vpush {d8}; vpush {d16-d31}; vpop {d8-d15}
d-registers : (of2 0xED2D 0x8B02 ≡ long (Vpush 8 8)) × (of2 0xED6D 0x0B20 ≡ long (Vpush 16 31)) × (of2 0xECBD 0x8B10 ≡ long (Vpop 8 15))
unfolding opened
d-registers = (refl, refl, refl)

-- sub sp, #8; sub.w sp, sp, #4096; subw sp, sp, #4
falls : (of 0xB082 ≡ short (SubSp 8)) × (of2 0xF5AD 0x5D80 ≡ long (SubSp 4096)) × (of2 0xF2AD 0x0D04 ≡ long (SubSp 4))
unfolding opened
falls = (refl, refl, refl)

-- add sp, #8; add.w sp, sp, #4096; addw sp, sp, #4
rises : (of 0xB002 ≡ short (AddSp 8)) × (of2 0xF50D 0x5D80 ≡ long (AddSp 4096)) × (of2 0xF20D 0x0D04 ≡ long (AddSp 4))
unfolding opened
rises = (refl, refl, refl)

-- modified constants: a byte, also of zeros; the byte in every other place, and in each; a byte to the far left, and to the near
constants :
    (of2 0xF1AD 0x0DAB ≡ long (SubSp 0xAB))
    × (of2 0xF1AD 0x0D00 ≡ long (SubSp 0))
    × (of2 0xF1AD 0x1DAB ≡ long (SubSp 0x00AB00AB))
    × (of2 0xF1AD 0x2DAB ≡ long (SubSp 0xAB00AB00))
    × (of2 0xF1AD 0x3DAB ≡ long (SubSp 0xABABABAB))
    × (of2 0xF1AD 0x4D7F ≡ long (SubSp 0xFF000000))
    × (of2 0xF5AD 0x7DFF ≡ long (SubSp 0x1FE))
unfolding opened
constants = (refl, refl, refl, refl, refl, refl, refl)

-- mov r7, sp; mov sp, r7; bx lr; b.w
moves : (of 0x466F ≡ short (Mov 7 13)) × (of 0x46BD ≡ short (Mov 13 7)) × (of 0x4770 ≡ short (Bx 14)) × (of2 0xF000 0xB800 ≡ long Branch)
unfolding opened
moves = (refl, refl, refl, refl)

-- str lr, [sp, #-8]!; str lr, [sp, #0]!; str lr, [sp, #-0]!
stores : (of2 0xF84D 0xED08 ≡ long (Store 14 8)) × (of2 0xF84D 0xEF00 ≡ long (Store 14 0)) × (of2 0xF84D 0xED00 ≡ long (Store 14 0))
unfolding opened
stores = (refl, refl, refl)

-- ldr lr, [sp], #8; ldr lr, [sp], #-0; ldr pc, [sp], #20
loads : (of2 0xF85D 0xEB08 ≡ long (Load 14 8)) × (of2 0xF85D 0xE900 ≡ long (Load 14 0)) × (of2 0xF85D 0xFB14 ≡ long (Load 15 20))
unfolding opened
loads = (refl, refl, refl)

-- lists: empty ones; one register in a list of T2, SP, PC in a push, LR and PC in a pop
lists :
    (of 0xB400 ≡ short Other)
    × (of 0xBC00 ≡ short Other)
    × (of2 0xE92D 0x0010 ≡ long Other)
    × (of2 0xE8BD 0x8000 ≡ long Other)
    × (of2 0xE92D 0x2010 ≡ long Other)
    × (of2 0xE92D 0x8010 ≡ long Other)
    × (of2 0xE8BD 0xC010 ≡ long Other)
unfolding opened
lists = (refl, refl, refl, refl, refl, refl, refl)

-- SP or PC where they may not be: push.w {sp}, push.w {pc}, pop.w {sp}; str sp, str pc, ldr sp
registers :
    (of2 0xF84D 0xDD04 ≡ long Other)
    × (of2 0xF84D 0xFD04 ≡ long Other)
    × (of2 0xF85D 0xDB04 ≡ long Other)
    × (of2 0xF84D 0xDD08 ≡ long Other)
    × (of2 0xF84D 0xFD08 ≡ long Other)
    × (of2 0xF85D 0xDB08 ≡ long Other)
unfolding opened
registers = (refl, refl, refl, refl, refl, refl)

-- no d register, 17, some past d31; an odd count of words
ranges :
    (of2 0xED2D 0x8B00 ≡ long Other) × (of2 0xED2D 0x0B22 ≡ long Other) × (of2 0xED6D 0x8B12 ≡ long Other) × (of2 0xED2D 0x8B03 ≡ long Other)
unfolding opened
ranges = (refl, refl, refl, refl)

-- zeros repeated; an instruction that sets the flags; SP plus a constant loaded from; bl, blx r1, nop
others :
    (of2 0xF1AD 0x1D00 ≡ long Other)
    × (of2 0xF1BD 0x0D04 ≡ long Other)
    × (of2 0xF85D 0xEF08 ≡ long Other)
    × (of2 0xF000 0xF800 ≡ long Other)
    × (of 0x4788 ≡ short Other)
    × (of 0xBF00 ≡ short Other)
unfolding opened
others = (refl, refl, refl, refl, refl, refl)

-- at an offset; half an instruction, half a halfword, nothing, and an offset past the end
places :
    (instruction_at (bytes_of (0xB082 ∷ 0x4770 ∷ [])) 2 ≡ short (Bx 14))
    × (of 0xE92D ≡ no_instruction)
    × (instruction_at (0xF0 ∷ []) 0 ≡ no_instruction)
    × (instruction_at [] 0 ≡ no_instruction)
    × (instruction_at (bytes_of (0x4770 ∷ [])) 4 ≡ no_instruction)
unfolding opened
places = (refl, refl, refl, refl, refl)
