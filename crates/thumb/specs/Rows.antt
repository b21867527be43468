-- The instructions that unwind codes stand for, by their encodings in the ARM Architecture Reference Manual (RULES 13.2): those of 16 bits,
-- and those of 32 bits as one number, the first halfword highest. An encoding that the manual calls unpredictable is no instruction.
use Rattle.std.specs.Prelude.{ℕ, zero, suc, ◌+◌, ◌-◌, ◌*◌, ◌^◌, List, [], ◌∷◌, Bool, ◌&&◌, ◌||◌, not, leb, eqb, if◌then◌else◌}
use Rattle.std.specs.Int.Bits.{bit_and}
use Rattle.words.specs.Bits.{bit, bits}
use Rattle.thumb.specs.Immediate.{imm12, expanded, unpredictable}
use Rattle.thumb.specs.declared.Action.{Action}
use Rattle.thumb.specs.declared.Action.TheVariants.{Push, Pop, Vpush, Vpop, SubSp, AddSp, Mov, Store, Load, Bx, Branch, Other}

-- how many of the registers below n a list names
unfoldable pub count : (list n : ℕ) → ℕ
count l zero = 0
count l (suc n) = count l n + bits n 1 l

-- push and pop of a list with so many registers at least. A pop has not both LR and PC
abbrev pub pushing : (least list : ℕ) → Action
pushing n l = if leb n (count l 16) then Push l else Other

abbrev pub popping : (least list : ℕ) → Action
popping n l = if leb n (count l 16) && not (bit 14 l && bit 15 l) then Pop l else Other

-- the register Rt
abbrev pub rt : ℕ → ℕ
rt w = bits 12 4 w

-- n d registers from number s up, the last of which is d31 at most
abbrev pub some_d : (s n : ℕ) → Bool
some_d s n = leb 1 n && leb n 16 && leb (s + n) 32

-- the first d register, D:Vd, and how many there are, imm8 / 2
abbrev pub first_d : ℕ → ℕ
first_d w = bits 12 4 w + 16 * bits 22 1 w

abbrev pub count_d : ℕ → ℕ
count_d w = bits 1 7 w

-- what an instruction of each encoding does
abbrev pub push_t1 : ℕ → Action
push_t1 h = pushing 1 (bits 0 8 h + 2 ^ 14 * bits 8 1 h)

abbrev pub pop_t1 : ℕ → Action
pop_t1 h = popping 1 (bits 0 8 h + 2 ^ 15 * bits 8 1 h)

abbrev pub sub_t1 : ℕ → Action
sub_t1 h = SubSp (4 * bits 0 7 h)

abbrev pub add_t2 : ℕ → Action
add_t2 h = AddSp (4 * bits 0 7 h)

abbrev pub mov_t1 : ℕ → Action
mov_t1 h = Mov (bits 0 3 h + 8 * bits 7 1 h) (bits 3 4 h)

abbrev pub bx_t1 : ℕ → Action
bx_t1 h = Bx (bits 3 4 h)

abbrev pub push_t2 : ℕ → Action
push_t2 w = pushing 2 (bits 0 16 w)

abbrev pub pop_t2 : ℕ → Action
pop_t2 w = popping 2 (bits 0 16 w)

abbrev pub push_t3 : ℕ → Action
push_t3 w = if eqb (rt w) 13 || eqb (rt w) 15 then Other else Push (2 ^ rt w)

abbrev pub pop_t3 : ℕ → Action
pop_t3 w = if eqb (rt w) 13 then Other else Pop (2 ^ rt w)

abbrev pub sub_t2 : ℕ → Action
sub_t2 w = if unpredictable (imm12 w) then Other else SubSp (expanded (imm12 w))

abbrev pub sub_t3 : ℕ → Action
sub_t3 w = SubSp (imm12 w)

abbrev pub add_t3 : ℕ → Action
add_t3 w = if unpredictable (imm12 w) then Other else AddSp (expanded (imm12 w))

abbrev pub add_t4 : ℕ → Action
add_t4 w = AddSp (imm12 w)

abbrev pub vpush_t1 : ℕ → Action
vpush_t1 w = if some_d (first_d w) (count_d w) then Vpush (first_d w) (first_d w + count_d w - 1) else Other

abbrev pub vpop_t1 : ℕ → Action
vpop_t1 w = if some_d (first_d w) (count_d w) then Vpop (first_d w) (first_d w + count_d w - 1) else Other

abbrev pub str_t4 : ℕ → Action
str_t4 w = if eqb (rt w) 13 || eqb (rt w) 15 then Other else Store (rt w) (bits 0 8 w)

abbrev pub ldr_t4 : ℕ → Action
ldr_t4 w = if eqb (rt w) 13 then Other else Load (rt w) (bits 0 8 w)

abbrev pub b_t4 : ℕ → Action
b_t4 w = Branch

-- a row is for the numbers that have the bits of `value` where `mask` has ones
pub record Row : Type 0 where
  pub mask : ℕ
  pub value : ℕ
  pub means : ℕ → Action

abbrev pub row : ℕ → ℕ → (ℕ → Action) → Row
row m v f = record { mask = m; value = v; means = f }

-- 16 bits: PUSH T1, POP T1, SUB (SP minus immediate) T1, ADD (SP plus immediate) T2, MOV (register) T1, BX T1
unfoldable pub rows16 : List Row
rows16 =
    row 0xFE00 0xB400 push_t1
    ∷ row 0xFE00 0xBC00 pop_t1
    ∷ row 0xFF80 0xB080 sub_t1
    ∷ row 0xFF80 0xB000 add_t2
    ∷ row 0xFF00 0x4600 mov_t1
    ∷ row 0xFF87 0x4700 bx_t1
    ∷ []

-- 32 bits: VPUSH T1, VPOP T1; STR (immediate) T4 at SP less a constant and LDR (immediate) T4 at SP, to which a constant is then added, both
-- writing SP back, where the constant 0 may have either sign; B T4
unfoldable pub rows_more : List Row
rows_more =
    row 0xFFBF0F01 0xED2D0B00 vpush_t1
    ∷ row 0xFFBF0F01 0xECBD0B00 vpop_t1
    ∷ row 0xFFFF0F00 0xF84D0D00 str_t4
    ∷ row 0xFFFF0FFF 0xF84D0F00 str_t4
    ∷ row 0xFFFF0F00 0xF85D0B00 ldr_t4
    ∷ row 0xFFFF0FFF 0xF85D0900 ldr_t4
    ∷ row 0xF800D000 0xF0009000 b_t4
    ∷ []

-- PUSH T2 and T3, POP T2 and T3, SUB (SP minus immediate) T2 and T3, ADD (SP plus immediate) T3 and T4, and those. A STR or LDR with the
-- constant 4 is PUSH T3 or POP T3, as the manual has it: their rows come first
unfoldable pub rows32 : List Row
rows32 =
    row 0xFFFFA000 0xE92D0000 push_t2
    ∷ row 0xFFFF0FFF 0xF84D0D04 push_t3
    ∷ row 0xFFFF2000 0xE8BD0000 pop_t2
    ∷ row 0xFFFF0FFF 0xF85D0B04 pop_t3
    ∷ row 0xFBFF8F00 0xF1AD0D00 sub_t2
    ∷ row 0xFBFF8F00 0xF2AD0D00 sub_t3
    ∷ row 0xFBFF8F00 0xF10D0D00 add_t3
    ∷ row 0xFBFF8F00 0xF20D0D00 add_t4
    ∷ rows_more

abbrev pub is_for : Row → ℕ → Bool
is_for r w = eqb (bit_and w r.mask) r.value

-- the first row that is for a number says what its instruction does
unfoldable pub action_in : List Row → ℕ → Action
action_in [] w = Other
action_in (r ∷ rs) w = let further = action_in rs w in if is_for r w then r.means w else further
