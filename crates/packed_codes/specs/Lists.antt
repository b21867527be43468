-- A packed word's two code lists by their instructions, the prologue's (RULES 4.6) and the epilogue's (RULES 4.7): what undoes each, and
-- its size. And what code bytes have to be to stand for them.
use Rattle.std.specs.Prelude.{ℕ, ◌+◌, ◌-◌, ◌≡◌, ◌≢◌, List, ◌∷◌, ◌++◌, reverse, [], Bool, true, false, ◌&&◌, not, length, take, drop, replicate, leb, eqb, if◌then◌else◌, Ok}
use Rattle.words.specs.Units.{code_bytes, stack_words, halfword_bytes}
use Rattle.words.specs.declared.CodeBytes.{CodeBytes}
use Rattle.words.specs.declared.Halfwords.{Halfwords}
use Rattle.unwinding.specs.CodeList.{Codes}
use Rattle.codes.specs.Table.{lr_if, bits16, bits32}
use Rattle.codes.specs.Code.{codes_at}
use Rattle.codes.specs.declared.Code.{Code}
use Rattle.codes.specs.declared.Undo.{Undo}
use Rattle.codes.specs.declared.Undo.TheVariants.{Up, Pop, Vpop, LoadLr, Nothing}
use Rattle.packed.specs.Packed.{amount, PF, EF, integers}
use Rattle.packed_codes.specs.PackedCodes.{low, pushed, chain_alone}
use Rattle.packed.specs.declared.Packed.{Packed}
use Rattle.packed_codes.specs.declared.CodesOf.{CodesOf}

-- an instruction, where there is one
abbrev pub only : Bool → Undo → Halfwords → List Code
only there u n = if there then record { undo = u; size = n } ∷ [] else []

abbrev pub size_if : (narrow : Bool) → Halfwords
size_if narrow = if narrow then bits16 else bits32

-- sub and add, of a size that goes by the amount (RULES 4.13); none where it is folded, or 0
abbrev pub ups : Packed → (fold : Bool) → List Code
ups p fold = only (not fold && not (eqb (amount p).0 0)) (Up (amount p)) (size_if (leb (amount p).0 127))

-- vpush and vpop of the d list (RULES 4.4), of 32 bits
abbrev pub vpops : Packed → List Code
vpops p = only (eqb p.r 1 && not (eqb p.reg 7)) (Vpop 8 (8 + p.reg)) bits32

-- push and pop of r0-r12 by their bits, and of LR or PC, which share a bit (RULES 4.9), by lr, unless all are 0
abbrev pub pops : (narrow : Bool) → (list lr : ℕ) → List Code
pops narrow l b = only (not (eqb (l + b) 0)) (Pop (l + lr_if b)) (size_if narrow)

-- what sets r11, if C=1: its code is a nop, of 16 bits where only r11 and LR are pushed (RULES 4.6)
abbrev pub nops : Packed → List Code
nops p = only (eqb p.c 1) Nothing (size_if (chain_alone (pushed p)))

-- if H=1, push {r0-r3} (RULES 4.6), or an add of their four words (RULES 4.10)
abbrev pub homes : Packed → List Code
homes p = only (eqb p.h 1) (Up (stack_words 4)) bits16

-- the prologue in its order (RULES 4.6); the size of its push goes by RULES 4.12
abbrev pub prologue : Packed → List Code
prologue p = let l : ℕ = integers p (PF p) in homes p ++ pops (low l) l p.l ++ nops p ++ vpops p ++ ups p (PF p)

-- its codes, the last one's first (RULES 4.16)
abbrev pub prologue_codes : Packed → Codes Code
prologue_codes p = record { list = reverse (prologue p); end_size = 0 }

-- the pop and the return: by a load (RULES 4.8), by the pop itself (RULES 4.9), or by a branch of 16 or of 32 bits (RULES 4.10), before
-- which a pop of LR has 32 (RULES 4.12)
abbrev pub leaving : (loads returns : Bool) → Packed → (list : ℕ) → Codes Code
leaving true returns p l = record { list = pops (low l) l 0 ++ only true (LoadLr (stack_words 5)) bits32; end_size = 0 }
leaving false true p l = record { list = pops (low l) l p.l; end_size = 0 }
leaving false false p l = record { list = pops (low l && eqb p.l 0) l p.l ++ homes p; end_size = halfword_bytes (size_if (eqb p.ret 1)) }

abbrev pub leaves : Packed → Codes Code
leaves p = leaving (eqb p.h 1 && eqb p.l 1) (eqb p.ret 0) p (integers p (EF p))

-- the epilogue in its order (RULES 4.7)
abbrev pub epilogue_codes : Packed → Codes Code
epilogue_codes p = record { list = ups p (EF p) ++ vpops p ++ (leaves p).list; end_size = (leaves p).end_size }

-- n code bytes from an index on are read as this list, by themselves too, and not without the last of them
pub record Stands (s : List ℕ) (i n : CodeBytes) (c : Codes Code) : Type 0 where
  pub read : codes_at s i ≡ Ok c
  pub within : codes_at (take (i.0 + n.0) s) i ≡ Ok c
  pub last : codes_at (take (i.0 + n.0 - 1) s) i ≢ Ok c

-- code bytes that hold both lists, the second unless Ret=3, with their lengths (RULES 4.16, 4.19)
pub record Holds (p : Packed) (c : CodesOf) : Type 0 where
  pub first : Stands c.bytes (code_bytes 0) c.first (prologue_codes p)
  pub second : p.ret ≢ 3 → Stands c.bytes c.first c.second (epilogue_codes p)
  pub none : p.ret ≡ 3 → c.second ≡ code_bytes 0
  pub rest : drop (c.first.0 + c.second.0) c.bytes ≡ replicate (16 - (c.first.0 + c.second.0)) 0
  pub all : length c.bytes ≡ 16
