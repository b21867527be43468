-- The order of one frame's refusals (RULES 9.50): inputs that are wrong in two ways, and the number that comes first.
-- Assumes nothing.
use Rattle.std.specs.Prelude.{Ok}
use Prim.Native.Nat.{ℕ}
use mathlib.Core.Path.{◌≡◌, refl}
use mathlib.Core.List.{List, [], ◌∷◌, ◌++◌}
use lib.ListN.{replicate}
use Rattle.words.specs.Refusals.{verdict_number}
use Rattle.words.specs.declared.Place.TheVariants.{Leaf}
use Rattle.machine.specs.declared.Regs.{Regs}
use Rattle.frame.specs.Frame.{Inputs, frame}
use Rattle.lent.proofs.Bytes.{bytes_of}
use Rattle.frame.proofs.Opened.{opened}

abbrev regs : (pc sp r7 : ℕ) → Regs
regs c s x = record { r = replicate 7 0 ++ (x ∷ replicate 5 0); sp = s; lr = 0; pc = c; d = replicate 32 0 }

-- one record at 0x1000, its .xdata at RVA 0x3000, and eight words of stack from a base
abbrev inputs : (word : ℕ) → (xdata : List ℕ) → (base : ℕ) → Inputs
inputs w x b =
    record { image = 0x400000; pdata = bytes_of (0x1000 ∷ w ∷ []); xdata = record { base = 0x3000; bytes = bytes_of x }; stack = record { base = b; bytes = bytes_of (replicate 8 7) } }

-- a table whose starts do not ascend
abbrev unsorted : ℕ → Inputs
unsorted b =
    record { image = 0x400000; pdata = bytes_of (0x1000 ∷ 0x00910041 ∷ 0x1000 ∷ 0x00910041 ∷ []); xdata = record { base = 0; bytes = [] }; stack = record { base = b; bytes = bytes_of (replicate 8 7) } }

abbrev refusal : Inputs → Regs → ℕ
refusal t g = verdict_number (frame t g)

-- 1 before 2, 2 before 3, 3 before 8 of the SP that was given
first-1 : refusal (unsorted 0x20002) (regs 0x3FFFFE 0x20001 0) ≡ 1
unfolding opened
first-1 = refl

then-2 : refusal (unsorted 0x20000) (regs 0x3FFFFE 0x20001 0) ≡ 2
unfolding opened
then-2 = refl

then-3 : refusal (unsorted 0x20000) (regs 0x401002 0x20001 0) ≡ 3
unfolding opened
then-3 = refl

-- 8 before the record's 4 and 5, for a leaf too
then-8 : refusal (inputs 0x00910043 [] 0x20000) (regs 0x401002 0x20001 0) ≡ 8
unfolding opened
then-8 = refl

eight-before-5 : refusal (inputs 0x3000 [] 0x20000) (regs 0x401002 0x1FFFC 0) ≡ 8
unfolding opened
eight-before-5 = refl

eight-leaf : refusal (inputs 0x00910041 [] 0x20000) (regs 0x409002 0x20024 0) ≡ 8
unfolding opened
eight-leaf = refl

eight-no-record : refusal (inputs 0x00910041 [] 0x20000) (regs 0x400002 0x20024 0) ≡ 8
unfolding opened
eight-no-record = refl

-- 4 and 5 before the cover test, 6 and 7 after it
four-far : refusal (inputs 0x00910043 [] 0x20000) (regs 0x409002 0x20000 0) ≡ 4
unfolding opened
four-far = refl

five-far : refusal (inputs 0x3000 [] 0x20000) (regs 0x409002 0x20000 0) ≡ 5
unfolding opened
five-far = refl

-- a record of 16 bytes with X=1, E=1, count 1, no code word: 6 where it covers the pc, a leaf past it
six-covered : refusal (inputs 0x3000 (0x00B00008 ∷ 0 ∷ []) 0x20000) (regs 0x401002 0x20000 0) ≡ 6
unfolding opened
six-covered = refl

six-far :
    frame (inputs 0x3000 (0x00B00008 ∷ 0 ∷ []) 0x20000) (regs 0x401010 0x20000 0)
    ≡ Ok (record { regs = regs 0 0x20000 0; place = Leaf; handler = 0; codes = 0 })
unfolding opened
six-far = refl

-- 6 before 7: a scope past the function's end whose index is past the codes
six-before-7 : refusal (inputs 0x3000 (0x10800008 ∷ 0x04E000FF ∷ 0xFF ∷ []) 0x20000) (regs 0x401002 0x20000 0) ≡ 6
unfolding opened
six-before-7 = refl

-- 7 before 9: a prologue of 4 + 4 bytes with an epilogue past the end, stopped inside an instruction
seven-before-9 : refusal (inputs 0x3000 (0x10800008 ∷ 0x00E000FF ∷ 0xFFFCFCFC ∷ []) 0x20000) (regs 0x401002 0x20000 0) ≡ 7
unfolding opened
seven-before-9 = refl

-- 9 before 10, and 10 before 8: a conditional epilogue DC FF at 8 that loads more than the stack has
abbrev conditional : Inputs
conditional = inputs 0x3000 (0x10C00010 ∷ 0x00000004 ∷ 0xFFDF7FDF ∷ []) 0x20000

nine-before-10 : refusal conditional (regs 0x40100A 0x20000 0) ≡ 9
unfolding opened
nine-before-10 = refl

ten-before-8 : refusal conditional (regs 0x401008 0x20000 0) ≡ 10
unfolding opened
ten-before-8 = refl

-- 8 of a code before 11: SP = r7, lower than it was given, and then more than the stack has
abbrev falling : (code : ℕ) → Inputs
falling c = inputs 0x3000 (0x10000010 ∷ c ∷ []) 0x20000

eight-before-11 : refusal (falling 0xFF7FC7) (regs 0x401008 0x20010 0x20000) ≡ 8
unfolding opened
eight-before-11 = refl

then-11 : refusal (falling 0xFFFBC7) (regs 0x401008 0x20010 0x2000C) ≡ 11
unfolding opened
then-11 = refl

-- the same SP is not below
not-11 : refusal (falling 0xFFFBC7) (regs 0x401008 0x20010 0x20010) ≡ 0
unfolding opened
not-11 = refl

-- SP is judged after each code, not only at the end: 7F (508 bytes) leaves the stack before r7 brings it back
each-code : refusal (falling 0xFFC77F) (regs 0x401008 0x20010 0x20010) ≡ 8
unfolding opened
each-code = refl
