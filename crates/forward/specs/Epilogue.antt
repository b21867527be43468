-- What an epilogue's instructions do (RULES 10.17, 10.18).
use Rattle.std.specs.Prelude.{ℕ, ◌≤◌, ◌≡◌, ◌⊎◌, List, [], ◌∷◌, Ok}
use Rattle.codes.specs.declared.Code.{Code}
use Rattle.codes.specs.declared.Undo.{Undo}
use Rattle.codes.specs.declared.Undo.TheVariants.{Up, Pop, SpFrom, Vpop, LoadLr, Nothing}
use Rattle.machine.specs.Step.{effect}
use Rattle.machine.specs.declared.Regs.{Regs}
use Rattle.forward.specs.Registers.{value}
use Rattle.forward.specs.State.{State, SameRest}

-- an instruction has its code's effect, where what it loads is lent; the pc goes on
pub record Undoes (u : Undo) (s t : State) : Type 0 where
  pub does : (after : Regs) → effect s.stack u s.regs ≡ Ok after → (t.regs.sp ≡ after.sp) × SameRest after t.regs
  pub stack : t.stack ≡ s.stack

-- the registers that a nop may change: r0-r3 and r12, but not rX
abbrev pub Free : (r_x : ℕ → Type 0) → ℕ → Type 0
Free r_x x = ((x ≤ 3) ⊎ (x ≡ 12)) × (r_x x → ⊥)

-- a nop changes nothing but those
pub record Idles (r_x : ℕ → Type 0) (s t : State) : Type 0 where
  pub sp : t.regs.sp ≡ s.regs.sp
  pub rest : (x : ℕ) → (Free r_x x → ⊥) → value t.regs x ≡ value s.regs x
  pub stack : t.stack ≡ s.stack

abbrev pub Leaves : (r_x : ℕ → Type 0) → Undo → State → State → Type 0
Leaves r_x (Up n) s t = Undoes (Up n) s t
Leaves r_x (Pop l) s t = Undoes (Pop l) s t
Leaves r_x (SpFrom x) s t = Undoes (SpFrom x) s t
Leaves r_x (Vpop a b) s t = Undoes (Vpop a b) s t
Leaves r_x (LoadLr n) s t = Undoes (LoadLr n) s t
Leaves r_x Nothing s t = Idles r_x s t

-- the state that the instructions of these codes leave, the first code's first
pub data Ran (r_x : ℕ → Type 0) : List Code → State → State → Type 0 where
  none : {s : State} → Ran r_x [] s s
  next : {cs : List Code} {s t u : State} (c : Code) → Leaves r_x c.undo s t → Ran r_x cs t u → Ran r_x (c ∷ cs) s u
