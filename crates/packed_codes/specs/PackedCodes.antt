-- The code bytes that a packed word stands for: the prologue's codes in reverse, then the epilogue's in its order (RULES 4.16).
use Rattle.std.specs.Prelude.{ℕ, zero, suc, ◌+◌, ◌*◌, ◌/◌, ◌%◌, ◌^◌, List, ◌∷◌, ◌++◌, [], Bool, true, false, ◌&&◌, not, length, take, replicate, leb, ltb, eqb, if◌then◌else◌, Option, None, Some, Ok}
use Rattle.words.specs.declared.StackWords.{StackWords}
use Rattle.words.specs.declared.Refusal.TheVariants.{Reserved}
use Rattle.words.specs.Units.{code_bytes}
use Rattle.words.specs.Answer.{Res, need, or_else, ◌>>◌}
use Rattle.codes.specs.Table.{range, lr_if}
use Rattle.packed.specs.Packed.{fields, allowed, integers, amount, PF, EF}
use Rattle.packed.specs.declared.Packed.{Packed}
use Rattle.packed_codes.specs.declared.CodesOf.{CodesOf}

abbrev pub when : Bool → List ℕ → List ℕ
when b l = if b then l else []

-- the code of an amount, if it is not 0 (RULES 4.13)
abbrev pub up_code : StackWords → List ℕ
up_code n = when (not (eqb n.0 0)) (if leb n.0 127 then n.0 ∷ [] else (0xE8 + n.0 / 256) ∷ (n.0 % 256) ∷ [])

-- the code of the d list, if there is one (RULES 4.4)
abbrev pub vpop_code : Packed → List ℕ
vpop_code p = when (eqb p.r 1 && not (eqb p.reg 7)) ((0xE0 + p.reg) ∷ [])

-- the X of a list r4-rX, among the n numbers from x up
unfoldable pub up_to : (n x list : ℕ) → Option ℕ
up_to zero x l = None
up_to (suc n) x l = let rest = up_to n (x + 1) l in if eqb l (range 4 x) then Some x else rest

abbrev pub d_form : Option ℕ → (first lr : ℕ) → (other : List ℕ) → List ℕ
d_form None f b other = other
d_form (Some x) f b other = (f + x % 4 + 4 * b) ∷ []

-- the code of a pop of 16 bits (RULES 4.14) or of 32 (RULES 4.15); LR is 0 or 1
abbrev pub pop_sized : (narrow : Bool) → (list lr : ℕ) → List ℕ
pop_sized true l b = d_form (up_to 4 4 l) 0xD0 b ((0xEC + b) ∷ l ∷ [])
pop_sized false l b = d_form (up_to 4 8 l) 0xD8 b ((0x80 + l / 256 + 32 * b) ∷ (l % 256) ∷ [])

abbrev pub pop_code : (narrow : Bool) → (list lr : ℕ) → List ℕ
pop_code w l b = when (not (eqb (l + b) 0)) (pop_sized w l b)

-- no register is above r7, LR and PC apart (RULES 4.12)
abbrev pub low : ℕ → Bool
low l = ltb l 256

-- what the prologue pushes: its integer list, LR in it, as a list of registers (RULES 4.3)
abbrev pub pushed : Packed → ℕ
pushed p = integers p (PF p) + lr_if p.l

-- r11 and LR, and nothing else
abbrev pub chain_alone : (list : ℕ) → Bool
chain_alone l = eqb l (2 ^ 11 + 2 ^ 14)

-- the nop of what sets r11, by the list that is pushed (RULES 4.6)
abbrev pub chain_code : (list : ℕ) → ℕ
chain_code l = if chain_alone l then 0xFB else 0xFC

-- the first list: the codes of RULES 4.6, the last step's first, and FF
unfoldable pub first_list : Packed → List ℕ
first_list p =
    let l : ℕ = integers p (PF p) in
    when (not (PF p)) (up_code (amount p)) ++ vpop_code p ++ when (eqb p.c 1) (chain_code (pushed p) ∷ []) ++ pop_code (low l) l p.l
    ++ when (eqb p.h 1) (0x04 ∷ [])
    ++ (0xFF ∷ [])

-- the pop and the return: by a load (RULES 4.8), by the pop itself (RULES 4.9), or by a branch (RULES 4.10)
abbrev pub leave : Packed → (list : ℕ) → List ℕ
leave p l =
    if eqb p.h 1 && eqb p.l 1
    then pop_code (low l) l 0 ++ (0xEF ∷ 0x05 ∷ 0xFF ∷ [])
    else
    (if eqb p.ret 0
    then pop_code (low l) l p.l ++ (0xFF ∷ [])
    else pop_code (low l && eqb p.l 0) l p.l ++ when (eqb p.h 1) (0x04 ∷ []) ++ ((0xFC + p.ret) ∷ []))

-- the second list: the codes of RULES 4.7; none for Ret=3
unfoldable pub second_list : Packed → List ℕ
second_list p =
    when (not (eqb p.ret 3)) (when (not (EF p)) (up_code (amount p)) ++ vpop_code p ++ leave p (integers p (EF p)))

-- both lists in 16 bytes, and how long each is (RULES 4.19)
abbrev pub written : Packed → CodesOf
written p =
    record { bytes = take 16 (first_list p ++ second_list p ++ replicate 16 0); first = code_bytes (length (first_list p)); second = code_bytes (length (second_list p)) }

-- the code writer (RULES 4.19, 9.55)
unfoldable pub write_codes : ℕ → Res CodesOf
write_codes w = do
  need (allowed (fields w)) Reserved
  Ok (written (fields w))

-- what the code writer's answer counts as where bytes and lengths are owed: zeros if it is refused (RULES 4.19)
abbrev pub codes_given : Res CodesOf → CodesOf
codes_given c = or_else c (record { bytes = replicate 16 0; first = code_bytes 0; second = code_bytes 0 })
