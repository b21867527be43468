-- What each instruction of `thumb` does by the ARM Architecture Reference Manual (RULES 13.14): to r0-r12, SP, LR, pc and d0-d31, and to the
-- part of memory that is lent as the stack. No unwind code is named here. SP and pc have 32 bits and wrap. Of memory that is not lent
-- nothing is said, neither what a load takes from there nor what a store leaves.
use Rattle.std.specs.Prelude.{ℕ, ◌+◌, ◌-◌, ◌%◌, ◌^◌, ◌≡◌, ◌≢◌, List, [], ◌∷◌, Bool, true, false, eqb, if◌then◌else◌}
use Rattle.words.specs.Bits.{bit, even}
use Rattle.words.specs.Units.{halfword_bytes}
use Rattle.lent.specs.Lent.{Lent, holds, word_at}
use Rattle.machine.specs.declared.Regs.{Regs}
use Rattle.thumb.specs.declared.Action.{Action}
use Rattle.thumb.specs.declared.Action.TheVariants.{Push, Pop, Vpush, Vpop, SubSp, AddSp, Mov, Store, Load, Bx, Branch, Other}
use Rattle.thumb.specs.declared.Instruction.{Instruction}
use Rattle.forward.specs.Registers.{value, width, held}
use Rattle.forward.specs.Saving.{listed, upward, bytes, Among}
use Rattle.forward.specs.State.{State, SameRest, Outside}

abbrev pub plus : (a n : ℕ) → ℕ
plus a n = (a + n) % 2 ^ 32

abbrev pub less : (a n : ℕ) → ℕ
less a n = (a + 2 ^ 32 - n) % 2 ^ 32

-- every register by one number: r0-r12, SP as 13, LR as 14, pc as 15, d0-d31 as 16-47
abbrev pub all : Regs → ℕ → ℕ
all g x = if eqb x 13 then g.sp else if eqb x 15 then g.pc else value g x

-- as an instruction reads it: the pc is 4 further
abbrev pub read : Regs → ℕ → ℕ
read g x = if eqb x 15 then plus g.pc 4 else all g x

-- from an address up, as far as it is lent, the stack has these registers, the first at the lowest
abbrev pub Has : Lent → (at : ℕ) → List ℕ → Regs → Type 0
Has k a [] g = Unit {0}
Has k a (x ∷ xs) g = (holds k a (width x) ≡ true → held k a x ≡ value g x) × Has k (a + width x) xs g

-- PUSH, VPUSH, STR, SUB: SP falls by n bytes, and registers are stored from there up
pub record Stores (n : ℕ) (xs : List ℕ) (s t : State) : Type 0 where
  pub sp : t.regs.sp ≡ less s.regs.sp n
  pub stored : Has t.stack t.regs.sp xs s.regs
  pub rest : SameRest s.regs t.regs
  pub stack : Outside t.regs.sp (t.regs.sp + bytes xs) s.stack t.stack

-- POP, VPOP, LDR, ADD: registers other than the pc are loaded from SP up, and SP rises by n bytes
pub record Loads (n : ℕ) (xs : List ℕ) (s t : State) : Type 0 where
  pub sp : t.regs.sp ≡ plus s.regs.sp n
  pub loaded : Has s.stack s.regs.sp xs t.regs
  pub rest : (x : ℕ) → (Among x xs → ⊥) → value t.regs x ≡ value s.regs x
  pub stack : t.stack ≡ s.stack

-- MOV: the first register takes what the second one is read as
pub record Moves (to from : ℕ) (s t : State) : Type 0 where
  pub taken : to ≢ 15 → all t.regs to ≡ read s.regs from
  pub rest : (x : ℕ) → x ≢ to → x ≢ 15 → all t.regs x ≡ all s.regs x
  pub stack : t.stack ≡ s.stack

-- a branch changes the pc alone
pub record Keeps (s t : State) : Type 0 where
  pub sp : t.regs.sp ≡ s.regs.sp
  pub rest : SameRest s.regs t.regs
  pub stack : t.stack ≡ s.stack

-- the pc apart. PUSH and POP go through r0-r12 and LR by rising number, and POP then loads the pc if it is listed
abbrev pub Acts : Action → State → State → Type 0
Acts (Push l) s t = Stores (bytes (listed l 15)) (listed l 15) s t
Acts (Pop l) s t = Loads (bytes (listed l 16)) (listed l 15) s t
Acts (Vpush a b) s t = Stores (bytes (upward (16 + a) (b + 1 - a))) (upward (16 + a) (b + 1 - a)) s t
Acts (Vpop a b) s t = Loads (bytes (upward (16 + a) (b + 1 - a))) (upward (16 + a) (b + 1 - a)) s t
Acts (SubSp n) s t = Stores n [] s t
Acts (AddSp n) s t = Loads n [] s t
Acts (Mov d m) s t = Moves d m s t
Acts (Store x n) s t = Stores n (x ∷ []) s t
Acts (Load x n) s t = Loads n (if eqb x 15 then [] else x ∷ []) s t
Acts (Bx m) s t = Keeps s t
Acts Branch s t = Keeps s t
Acts Other s t = Unit {0}

-- the pc: past the instruction, or where it goes to, bit 0 cleared. Of B, and of what is not known, nothing is said
abbrev pub Passes : (size : ℕ) → State → State → Type 0
Passes n s t = t.regs.pc ≡ plus s.regs.pc n

abbrev pub LoadsPc : (at : ℕ) → State → State → Type 0
LoadsPc a s t = holds s.stack a 4 ≡ true → t.regs.pc ≡ even (word_at s.stack a)

abbrev pub Which : Bool → Type 0 → Type 0 → Type 0
Which true A B = A
Which false A B = B

abbrev pub Next : Action → (size : ℕ) → State → State → Type 0
Next (Push l) n s t = Passes n s t
Next (Pop l) n s t = Which (bit 15 l) (LoadsPc (s.regs.sp + bytes (listed l 15)) s t) (Passes n s t)
Next (Vpush a b) n s t = Passes n s t
Next (Vpop a b) n s t = Passes n s t
Next (SubSp m) n s t = Passes n s t
Next (AddSp m) n s t = Passes n s t
Next (Mov d m) n s t = Which (eqb d 15) (t.regs.pc ≡ even (read s.regs m)) (Passes n s t)
Next (Store x m) n s t = Passes n s t
Next (Load x m) n s t = Which (eqb x 15) (LoadsPc s.regs.sp s t) (Passes n s t)
Next (Bx m) n s t = t.regs.pc ≡ even (read s.regs m)
Next Branch n s t = Unit {0}
Next Other n s t = Unit {0}

pub record Executes (i : Instruction) (s t : State) : Type 0 where
  pub does : Acts i.action s t
  pub next : Next i.action (halfword_bytes i.size) s t
