-- Records beside their code, computed (RULES 13.4 to 13.10), and the order of the refusals (RULES 9.59).
-- Assumes nothing.
use Rattle.std.specs.Prelude.{Ok, Err}
use Prim.Native.Nat.{ℕ}
use mathlib.Core.Path.{◌≡◌, refl}
use mathlib.Core.List.{List, [], ◌∷◌, ◌++◌}
use lib.ListN.{replicate, take}
use Rattle.record.proofs.Opened as Tables
use Rattle.lent.specs.Lent.{lent}
use Rattle.lent.proofs.Bytes.{bytes_of}
use Rattle.thumb.proofs.Opened as Thumb
use Rattle.comparing.specs.Items.{compared, prologue_items, epilogue_items}
use Rattle.expected.specs.Expected.{same}
use Rattle.fitting.specs.Fitting.{fit_number, epilogues_items, Fitted, fitted}
use Rattle.fitting.specs.declared.FitRefusal.TheVariants.{Differs}

unfoldable pub opened : Unit {0}
unfolding Tables.opened Thumb.opened compared prologue_items epilogue_items same epilogues_items fitted
opened = tt

abbrev number_of : Fitted → ℕ
number_of (Ok u) = 0
number_of (Err r) = fit_number r

-- ---- the packed record of RULES 4.20: push {r4,r5,lr}, sub sp,#8; add sp,#8, pop {r4,r5,pc}. Two halfwords a word, the first lowest
abbrev body : List ℕ
body = replicate 6 0xBF00BF00

abbrev packed : (word : ℕ) → (code : List ℕ) → Fitted
packed w s = fitted (lent 0 []) w s

right : packed 0x00910041 (bytes_of (0xB082B530 ∷ body ++ (0xBD30B002 ∷ []))) ≡ Ok tt
unfolding opened
right = refl

-- in the other order; and a pop without pc
swapped : packed 0x00910041 (bytes_of (0xB530B082 ∷ body ++ (0xBD30B002 ∷ []))) ≡ Err (Differs 0)
unfolding opened
swapped = refl

unreturned : packed 0x00910041 (bytes_of (0xB082B530 ∷ body ++ (0xBC30B002 ∷ []))) ≡ Err (Differs 0x1E)
unfolding opened
unreturned = refl

-- a byte short; a byte more
short : number_of (packed 0x00910041 (take 31 (bytes_of (0xB082B530 ∷ body ++ (0xBD30B002 ∷ []))))) ≡ 18
unfolding opened
short = refl

more : packed 0x00910041 (bytes_of (0xB082B530 ∷ body ++ (0xBD30B002 ∷ [])) ++ (0xFF ∷ [])) ≡ Ok tt
unfolding opened
more = refl

-- Flag 2: the prologue is not looked at
fragment : packed 0x00910042 (bytes_of (0 ∷ body ++ (0xBD30B002 ∷ []))) ≡ Ok tt
unfolding opened
fragment = refl

-- push.w {r11,lr}; mov r11,sp; sub sp,#8: the nop has 16 bits (RULES 4.21), so add.w r11,sp,#0 is not its instruction
chained : packed 0x00BF0041 (bytes_of (0x4800E92D ∷ 0xB08246EB ∷ replicate 4 0xBF00BF00 ++ (0xB002BF00 ∷ 0x8800E8BD ∷ []))) ≡ Ok tt
unfolding opened
chained = refl

chained-32 : packed 0x00BF0041 (bytes_of (0x4800E92D ∷ 0x0B00F10D ∷ 0xBF00B082 ∷ replicate 3 0xBF00BF00 ++ (0xB002BF00 ∷ 0x8800E8BD ∷ []))) ≡ Err (Differs 4)
unfolding opened
chained-32 = refl

-- with PF=1, push.w {r3,r11,lr}; add.w r11,sp,#4: it has 32
chained-folded : packed 0xFF3F0041 (bytes_of (0x4808E92D ∷ 0x0B04F10D ∷ replicate 5 0xBF00BF00 ++ (0x8808E8BD ∷ []))) ≡ Ok tt
unfolding opened
chained-folded = refl

-- ---- a full record, 18 bytes long, its one epilogue at the end and its codes in one word
abbrev full : (codes : ℕ) → (code : List ℕ) → Fitted
full c s = fitted (lent 0x3000 (bytes_of (0x10200009 ∷ c ∷ []))) 0x3000 (bytes_of s)

-- C7 DD 04 FD: push {r0-r3} or sub sp,#16; push.w {r4-r9,lr}; mov r7,sp; and back, with bx lr
homed : full 0xFD04DDC7 (0xE92DB40F ∷ 0x466F43F0 ∷ 0xE8BD46BD ∷ 0xB00443F0 ∷ 0x4770 ∷ []) ≡ Ok tt
unfolding opened
homed = refl

lowered : full 0xFD04DDC7 (0xE92DB084 ∷ 0x466F43F0 ∷ 0xE8BD46BD ∷ 0xB00443F0 ∷ 0x4770 ∷ []) ≡ Ok tt
unfolding opened
lowered = refl

-- in an epilogue 04 is no pop {r0-r3}; and it ends in bx lr, not in bx r3
unhomed : full 0xFD04DDC7 (0xE92DB40F ∷ 0x466F43F0 ∷ 0xE8BD46BD ∷ 0xBC0F43F0 ∷ 0x4770 ∷ []) ≡ Err (Differs 14)
unfolding opened
unhomed = refl

elsewhere : full 0xFD04DDC7 (0xE92DB40F ∷ 0x466F43F0 ∷ 0xE8BD46BD ∷ 0xB00443F0 ∷ 0x4718 ∷ []) ≡ Err (Differs 16)
unfolding opened
elsewhere = refl

-- F7 00 04 is an amount like 04, and no push {r0-r3}
amount : full 0xFF0400F7 (0xB084 ∷ 0 ∷ 0 ∷ 0 ∷ 0xB004 ∷ []) ≡ Ok tt
unfolding opened
amount = refl

no-home : full 0xFF0400F7 (0xB40F ∷ 0 ∷ 0 ∷ 0 ∷ 0xB004 ∷ []) ≡ Err (Differs 0)
unfolding opened
no-home = refl

-- ---- the order of refusals (RULES 9.59), of code that is too short and wrong: 1, 4, 5, 6, 7, 18, 17
abbrev why : (rva : ℕ) → (xdata : List ℕ) → (word : ℕ) → (code : List ℕ) → ℕ
why r x w s = number_of (fitted (lent r (bytes_of x)) w s)

first-1 : why 2 [] 3 [] ≡ 1
unfolding opened
first-1 = refl

then-4 : why 0 [] 3 [] ≡ 4
unfolding opened
then-4 = refl

then-5 : why 0x3000 (0x10200009 ∷ []) 0x3000 [] ≡ 5
unfolding opened
then-5 = refl

-- EE is no code, and the prologue of FC is longer than a function of one halfword
then-6 : why 0x3000 (0x10200001 ∷ 0xEEFC ∷ []) 0x3000 [] ≡ 6
unfolding opened
then-6 = refl

then-7 : why 0x3000 (0x10200001 ∷ 0xFFFC ∷ []) 0x3000 [] ≡ 7
unfolding opened
then-7 = refl

then-18 : why 0x3000 (0x10200009 ∷ 0xFD04DDC7 ∷ []) 0x3000 (replicate 17 0) ≡ 18
unfolding opened
then-18 = refl

last-17 : why 0x3000 (0x10200009 ∷ 0xFD04DDC7 ∷ []) 0x3000 (replicate 18 0) ≡ 17
unfolding opened
last-17 = refl

-- a function of length 0 is judged like any other
none-6 : why 0x3000 (0x10200000 ∷ 0xEE ∷ []) 0x3000 [] ≡ 6
unfolding opened
none-6 = refl

none-fits : why 0x3000 (0x10200000 ∷ 0xFF ∷ []) 0x3000 [] ≡ 0
unfolding opened
none-fits = refl
