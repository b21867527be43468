-- What passing means (RULES 13.15, 13.17): of one instruction that is the one of its code, and of a function whose record fits.
use Rattle.std.specs.Prelude.{ℕ, ◌+◌, ◌^◌, ◌≤◌, ◌<◌, ◌≡◌, ◌≢◌, List, ◌∷◌, true, false, Ok}
use Rattle.words.specs.Bits.{bit, even}
use Rattle.words.specs.declared.CodeBytes.{CodeBytes}
use Rattle.lent.specs.Lent.{end}
use Rattle.codes.specs.declared.Code.{Code}
use Rattle.codes.specs.declared.Undo.{Undo}
use Rattle.codes.specs.declared.Undo.TheVariants.{Up, Pop, SpFrom, Vpop, LoadLr, Nothing}
use Rattle.machine.specs.Step.{effect}
use Rattle.machine.specs.declared.Regs.{Regs}
use Rattle.frame.specs.Frame.{Inputs}
use Rattle.frame.specs.declared.Unwound.{Unwound}
use Rattle.thumb.specs.Instruction.{instruction_at}
use Rattle.comparing.specs.Items.{Coded, opens, closes, leaves, item, scan_coded}
use Rattle.fitting.specs.Exactly.{Stands}
use Rattle.forward.specs.Registers.{value}
use Rattle.forward.specs.Saving.{falls}
use Rattle.forward.specs.State.{State}
use Rattle.forward.specs.Prologue.{Does}
use Rattle.forward.specs.Epilogue.{Undoes}
use Rattle.forward.specs.Demand.{Finds}
use Rattle.forward.specs.Met.{FineOne}
use Rattle.executing.specs.Manual.{Keeps, Executes}
use Rattle.executing.specs.Executed.{plain, Executed}

pub data In {A : Type 0} (x : A) : List A → Type 0 where
  here : {xs : List A} → In x (x ∷ xs)
  later : {y : A} {xs : List A} → In x xs → In x (y ∷ xs)

-- a code of a list that is read from code bytes, and no nop
pub record IsCode (c : Coded) : Type 0 where
  pub bytes : List ℕ
  pub index : CodeBytes
  pub among : In c (scan_coded bytes index).list
  pub acts : c.code.undo ≢ Nothing

-- executed where SP and what it falls over are lent, the instruction of a prologue does what its code undoes
abbrev pub Opens : Type 0
Opens =
    (c : Coded) → IsCode c → (before : List Code) → FineOne before c.code.undo
    → (s : List ℕ) (o : ℕ) (a b : State) → Stands (item s o (opens c)) → Executes (instruction_at s o) a b
    → a.stack.base + falls c.code.undo ≤ a.regs.sp
    → a.regs.sp ≤ end a.stack
    → end a.stack < 2 ^ 32
    → Does before c.code.undo a b

-- the SP that a code leaves has 32 bits
abbrev pub Low : Undo → State → Type 0
Low u a = (after : Regs) → effect a.stack u a.regs ≡ Ok after → after.sp < 2 ^ 32

-- that of an epilogue does what its code does
abbrev pub Closes : Type 0
Closes =
    (c : Coded) → IsCode c → (s : List ℕ) (o : ℕ) (a b : State) → Stands (item s o (closes false c)) → Executes (instruction_at s o) a b
    → Low c.code.undo a
    → Undoes c.code.undo a b

-- the code loads LR
abbrev pub LoadsLr : Undo → Type 0
LoadsLr (Up n) = ⊥
LoadsLr (Pop l) = bit 14 l ≡ true
LoadsLr (SpFrom x) = ⊥
LoadsLr (Vpop s e) = ⊥
LoadsLr (LoadLr n) = Unit {0}
LoadsLr Nothing = ⊥

-- the last before FF does what its code does, but what the code loads into LR goes to the pc, bit 0 cleared
pub record Returns (u : Undo) (a b : State) : Type 0 where
  pub does : (after : Regs) → effect a.stack u a.regs ≡ Ok after → (b.regs.sp ≡ after.sp) × ((x : ℕ) → x ≢ 14 → value b.regs x ≡ value after x)
  pub pc : LoadsLr u → (after : Regs) → effect a.stack u a.regs ≡ Ok after → b.regs.pc ≡ even after.lr
  pub stack : b.stack ≡ a.stack

abbrev pub Lasts : Type 0
Lasts =
    (c : Coded) → IsCode c → (s : List ℕ) (o : ℕ) (a b : State) → Stands (item s o (closes true c)) → Executes (instruction_at s o) a b
    → Low c.code.undo a
    → Returns c.code.undo a b

-- that of FD goes to the address in LR, and that of FE changes nothing but the pc
abbrev pub Leaves : Type 0
Leaves =
    (s : List ℕ) (o : ℕ) (a b : State)
    → (Stands (item s o (leaves 2)) → Executes (instruction_at s o) a b → Keeps a b × (b.regs.pc ≡ even a.regs.lr))
    × (Stands (item s o (leaves 4)) → Executes (instruction_at s o) a b → Keeps a b)

pub record Means : Type 0 where
  pub opens : Opens
  pub closes : Closes
  pub lasts : Lasts
  pub leaves : Leaves

-- demand 3 of functions whose record fits
abbrev pub FitDemand3 : (Inputs → Regs → Unwound) → Type 0
FitDemand3 unwind =
    (s : List ℕ) (t : Inputs) (entry now : State) (a : Executed s t entry now)
    → Finds unwind t entry now a.place a.shape.handler (plain a.undone)
