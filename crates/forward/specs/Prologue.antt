-- A prologue's instructions, forwards: what each does to registers and stack, without any undoing (RULES 10.9 to 10.14). The pc goes on and
-- is no part of it.
use Rattle.std.specs.Prelude.{ℕ, ◌+◌, ◌<◌, ◌≡◌, ◌≢◌, List, [], ◌∷◌}
use Rattle.lent.specs.Lent.{Lent, word_at}
use Rattle.words.specs.Units.{stack_bytes}
use Rattle.words.specs.declared.StackWords.{StackWords}
use Rattle.codes.specs.declared.Code.{Code}
use Rattle.codes.specs.declared.Undo.{Undo}
use Rattle.codes.specs.declared.Undo.TheVariants.{Up, Pop, SpFrom, Vpop, LoadLr, Nothing}
use Rattle.machine.specs.declared.Regs.{Regs}
use Rattle.forward.specs.Registers.{value, width, held, Lasting}
use Rattle.forward.specs.Saving.{saves, bytes, Saved, RX}
use Rattle.forward.specs.State.{State, SameRest, Outside}

-- the registers stand in the stack from an address up, the first at the lowest
abbrev pub Stored : Lent → (at : ℕ) → List ℕ → Regs → Type 0
Stored k a [] g = Unit {0}
Stored k a (x ∷ xs) g = (held k a x ≡ value g x) × Stored k (a + width x) xs g

-- SP falls by n bytes; the stack's bytes from the new SP up to an address may be written; all else is kept
pub record Falls (n up_to : ℕ) (s t : State) : Type 0 where
  pub sp : t.regs.sp + n ≡ s.regs.sp
  pub rest : SameRest s.regs t.regs
  pub stack : Outside t.regs.sp up_to s.stack t.stack

-- push, vpush (RULES 10.9)
pub record Pushes (xs : List ℕ) (s t : State) : Type 0 where
  pub falls : Falls (bytes xs) s.regs.sp s t
  pub stored : Stored t.stack t.regs.sp xs s.regs

-- SP falls, and LR is stored where it then is (RULES 10.10)
pub record StoresLr (n : StackWords) (s t : State) : Type 0 where
  pub falls : Falls (stack_bytes n) (t.regs.sp + 4) s t
  pub stored : word_at t.stack t.regs.sp ≡ s.regs.lr
  -- there is room for LR
  pub some : 0 < n.0

-- SP falls, and what it falls over may be written, as by push {r0-r3} (RULES 10.11)
abbrev pub Subtracts : StackWords → State → State → Type 0
Subtracts n s t = Falls (stack_bytes n) s.regs.sp s t

-- SP is copied to rX, after the instructions of these codes (RULES 10.12)
pub record Frames (before : List Code) (x : ℕ) (s t : State) : Type 0 where
  pub sp : t.regs.sp ≡ s.regs.sp
  pub r_x : value t.regs x ≡ s.regs.sp
  pub rest : (y : ℕ) → y ≢ x → value t.regs y ≡ value s.regs y
  pub stack : t.stack ≡ s.stack
  -- there was no copy before
  pub once : (y : ℕ) → RX before y → ⊥
  -- rX is saved if it must last
  pub saved : Lasting x → Saved before x

-- a nop keeps the stack, SP, rX once it has its copy, and what must last and is not saved yet (RULES 10.13, 11.3)
pub record Rests (before : List Code) (s t : State) : Type 0 where
  pub stack : t.stack ≡ s.stack
  pub sp : t.regs.sp ≡ s.regs.sp
  pub r_x : (x : ℕ) → RX before x → value t.regs x ≡ value s.regs x
  pub unsaved : (x : ℕ) → Lasting x → (Saved before x → ⊥) → value t.regs x ≡ value s.regs x

-- the instruction that a code undoes, after the instructions of these codes
abbrev pub Does : (before : List Code) → Undo → State → State → Type 0
Does before (Up n) s t = Subtracts n s t
Does before (Pop l) s t = Pushes (saves (Pop l)) s t
Does before (SpFrom x) s t = Frames before x s t
Does before (Vpop a b) s t = Pushes (saves (Vpop a b)) s t
Does before (LoadLr n) s t = StoresLr n s t
Does before Nothing s t = Rests before s t

-- the state that the instructions of these codes leave, entered in a state; the first code's instruction ran last
pub data Done (entry : State) : List Code → State → Type 0 where
  none : Done entry [] entry
  next : {cs : List Code} {s t : State} (c : Code) → Done entry cs s → Does cs c.undo s t → Done entry (c ∷ cs) t
