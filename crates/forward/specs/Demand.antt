-- Demand 3 (RULES 10.4): one frame finds the caller of a function that stands before an instruction, whatever its registers were at entry.
use Rattle.std.specs.Prelude.{ℕ, ◌-◌, ◌%◌, ◌≤◌, ◌<◌, ◌≡◌, List, true, ◌&&◌, length, get_or, Some, Ok}
use Rattle.words.specs.Bits.{even}
use Rattle.lent.specs.Lent.{Lent, end}
use Rattle.words.specs.declared.Place.{Place}
use Rattle.unwinding.specs.Shape.{Shape}
use Rattle.unwinding.specs.View as Views
use Rattle.codes.specs.Code.{size, codes_at}
use Rattle.codes.specs.declared.Code.{Code}
use Rattle.machine.specs.Registers.{reg}
use Rattle.machine.specs.declared.Regs.{Regs}
use Rattle.pdata.specs.Pdata.{find}
use Rattle.xdata.specs.Xdata.{fit_xdata}
use Rattle.record.specs.Record.{shape_of}
use Rattle.pdata.specs.declared.Entry.{Entry}
use Rattle.frame.specs.Frame.{Inputs, fit_stack}
use Rattle.frame.specs.declared.Unwound.{Unwound}
use Rattle.forward.specs.State.{Whole, State, Outside}
use Rattle.forward.specs.Stop.{Stopped}

-- the inputs, but for the stack
abbrev pub lending : Inputs → Lent → Inputs
lending t k = record { image = t.image; pdata = t.pdata; xdata = t.xdata; stack = k }

-- what is asked of a function that was entered in one state and is now in another (RULES 10.6 to 10.19)
pub record Asked (t : Inputs) (entry now : State) : Type 0 where
  -- of the inputs and of the record (RULES 10.6)
  pub passes1 : (fit_stack t.stack && fit_xdata t.xdata) ≡ true
  pub own : Entry
  pub found : find t.image t.pdata now.regs.pc ≡ Ok (Some own)
  pub shape : Shape
  pub passes4-5 : shape_of t.xdata own ≡ Ok shape
  pub view : Views.View Code
  pub passes6-7 : Views.view size codes_at shape ≡ Ok view
  pub offset : ℕ
  pub here : offset ≡ even now.regs.pc - t.image - own.start
  pub covers : offset < shape.span
  -- of SP at entry (RULES 10.7)
  pub aligned : entry.regs.sp % 4 ≡ 0
  pub lent : entry.regs.sp ≤ end t.stack
  pub stack : now.stack ≡ t.stack
  pub place : Place
  pub undone : List Code
  pub stopped : Stopped own shape view entry offset now place undone

-- the answer: the frame is not refused; the caller has the SP, LR, r4-r11 and d8-d15 of the entry, and for its pc that LR without bit 0;
-- the place, the handler and the count of the codes run (RULES 10.4)
pub record Answer (entry : State) (p : Place) (rva : ℕ) (undone : List Code) (c : Unwound) : Type 0 where
  pub sp : c.regs.sp ≡ entry.regs.sp
  pub pc : c.regs.pc ≡ even entry.regs.lr
  pub lr : c.regs.lr ≡ entry.regs.lr
  pub whole : Whole c.regs
  pub r : (x : ℕ) → 4 ≤ x → x ≤ 11 → reg c.regs x ≡ reg entry.regs x
  pub d : (x : ℕ) → 8 ≤ x → x ≤ 15 → get_or c.regs.d x 0 ≡ get_or entry.regs.d x 0
  pub told : c.told ≡ Ok (record { place = p; handler = rva; codes = length undone })

-- one answer, whatever bytes the stack has at or above the caller's SP (RULES 10.5)
pub record Finds (unwind : Inputs → Regs → Unwound) (t : Inputs) (entry now : State) (p : Place) (rva : ℕ) (undone : List Code) : Type 0 where
  pub caller : Unwound
  pub found : (k : Lent) → Outside entry.regs.sp (end t.stack) t.stack k → unwind (lending t k) now.regs ≡ caller
  pub answer : Answer entry p rva undone caller

-- of anything that takes these inputs and registers and gives an answer
unfoldable pub Demand3 : (Inputs → Regs → Unwound) → Type 0
Demand3 unwind =
    (t : Inputs) (entry now : State) (asked : Asked t entry now)
    → Finds unwind t entry now asked.place asked.shape.handler asked.undone
