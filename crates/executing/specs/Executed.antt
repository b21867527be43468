-- A function whose record fits its bytes, entered in a state and stopped (RULES 13.16). Its prologue and epilogue did what the instructions in its
-- bytes do by the manual. Nops, the body and the list of codes keep what demand 3 asks of them; nothing else is asked.
use Rattle.std.specs.Prelude.{ℕ, ◌+◌, ◌-◌, ◌%◌, ◌≤◌, ◌<◌, ◌≡◌, List, [], ◌∷◌, ◌++◌, map, Bool, true, false, Some, Ok}
use Rattle.words.specs.Bits.{even}
use Rattle.words.specs.declared.Place.{Place}
use Rattle.words.specs.declared.Place.TheVariants.{Prologue, Body, Epilogue}
use Rattle.lent.specs.Lent.{end}
use Rattle.unwinding.specs.CodeList.{total}
use Rattle.unwinding.specs.Shape.{Shape}
use Rattle.unwinding.specs.View as Views
use Rattle.unwinding.specs.View.{EpilogueOf, View}
use Rattle.unwinding.specs.Listed.{Of, InNone}
use Rattle.unwinding.specs.declared.Scope.{Scope}
use Rattle.codes.specs.Condition.{always}
use Rattle.codes.specs.declared.Code.{Code}
use Rattle.codes.specs.declared.Undo.{Undo}
use Rattle.codes.specs.declared.Undo.TheVariants.{Up, Pop, SpFrom, Vpop, LoadLr, Nothing}
use Rattle.pdata.specs.Pdata.{find}
use Rattle.pdata.specs.declared.Entry.{Entry}
use Rattle.record.specs.Record.{shape_at}
use Rattle.frame.specs.Frame.{Inputs, fit_stack}
use Rattle.thumb.specs.Instruction.{instruction_at}
use Rattle.comparing.specs.Items.{Coded, size_of, coded_at}
use Rattle.fitting.specs.Fitting.{fitted}
use Rattle.forward.specs.Saving.{RX}
use Rattle.forward.specs.State.{State}
use Rattle.forward.specs.Prologue.{Rests, Done}
use Rattle.forward.specs.Body as Kept
use Rattle.forward.specs.Epilogue.{Idles}
use Rattle.forward.specs.Epilogues.{Fit}
use Rattle.forward.specs.Stop.{InStack}
use Rattle.forward.specs.Met.{Fine, room}
use Rattle.executing.specs.Manual.{Executes}

-- codes without their first bytes
abbrev pub code_of : Coded → Code
code_of c = c.code

abbrev pub plain : List Coded → List Code
plain cs = map code_of cs

-- what is asked of a nop is asked of nothing else
abbrev pub OfNop : Undo → Type 0 → Type 0
OfNop (Up n) A = Unit {0}
OfNop (Pop l) A = Unit {0}
OfNop (SpFrom x) A = Unit {0}
OfNop (Vpop s e) A = Unit {0}
OfNop (LoadLr n) A = Unit {0}
OfNop Nothing A = A

-- over a function's bytes
module _ (s : List ℕ) where
  -- the instructions of a prologue's codes were executed, the first code's last; each stands behind those of the codes after it
  pub data Opened (entry : State) : List Coded → State → Type 0 where
    none : Opened entry [] entry
    next :
        {cs : List Coded} {a b : State} (c : Coded) → Opened entry cs a → Executes (instruction_at s (total size_of cs)) a b
        → OfNop c.code.undo (Rests (plain cs) a b)
        → Opened entry (c ∷ cs) b

  -- those of an epilogue's codes, from an offset on, the first code's first
  pub data Closed (r_x : ℕ → Type 0) : (offset : ℕ) → List Coded → State → State → Type 0 where
    none : {o : ℕ} {a : State} → Closed r_x o [] a a
    next :
        {o : ℕ} {cs : List Coded} {a b z : State} (c : Coded) → Executes (instruction_at s o) a b → OfNop c.code.undo (Idles r_x a b)
        → Closed r_x (o + size_of c) cs b z
        → Closed r_x o (c ∷ cs) a z

  -- a prologue, with room for it in the stack (RULES 10.7)
  pub record Entered (cs : List Coded) (entry left : State) : Type 0 where
    pub opened : Opened entry cs left
    pub low : entry.stack.base + room (plain cs) ≤ entry.regs.sp

  -- a function without prologue begins as if one had run (RULES 10.19)
  abbrev pub Begins : (fragment : Bool) → List Coded → (entry left : State) → Type 0
  Begins false cs e l = Entered cs e l
  Begins true cs e l = Done e (plain cs) l × InStack l

  pub record InPrologue (v : View Coded) (entry : State) (o : ℕ) (now : State) (undone : List Coded) : Type 0 where
    pub ahead : List Coded
    pub codes : v.codes.list ≡ ahead ++ undone
    pub offset : o ≡ total size_of undone
    pub early : o < v.prologue
    pub entered : Entered undone entry now

  pub record Past (fragment : Bool) (cs : List Coded) (entry now : State) : Type 0 where
    pub left : State
    pub begins : Begins fragment cs entry left
    pub keeps : Kept.Body (plain cs) left now

  pub record InBody (fragment : Bool) (v : View Coded) (entry : State) (o : ℕ) (now : State) : Type 0 where
    pub late : v.prologue ≤ o
    pub outside : InNone o v.epilogues
    pub past : Past fragment v.codes.list entry now

  pub record InEpilogue (r : Entry) (sh : Shape) (v : View Coded) (entry : State) (o : ℕ) (now : State) (undone : List Coded) : Type 0 where
    pub scope : Scope
    pub read : EpilogueOf Coded
    pub listed : Of scope read sh.scopes v.epilogues
    pub fit : Fit r scope
    pub unconditional : read.condition ≡ always
    pub gone : List Coded
    pub codes : read.codes.list ≡ gone ++ undone
    pub offset : o ≡ read.start + total size_of gone
    pub inside : total size_of gone < read.size
    pub start : State
    pub past : Past sh.fragment v.codes.list entry start
    pub closed : Closed (RX (plain v.codes.list)) read.start gone start now

  pub data Stopped (r : Entry) (sh : Shape) (v : View Coded) (entry : State) (o : ℕ) (now : State) : Place → List Coded → Type 0 where
    prologue : {undone : List Coded} → InPrologue v entry o now undone → Stopped r sh v entry o now Prologue undone
    body : InBody sh.fragment v entry o now → Stopped r sh v entry o now Body v.codes.list
    epilogue : {undone : List Coded} → InEpilogue r sh v entry o now undone → Stopped r sh v entry o now Epilogue undone

  -- `Asked` of demand 3, with executed instructions for what it asks of them
  pub record Executed (t : Inputs) (entry now : State) : Type 0 where
    pub passes1 : fit_stack t.stack ≡ true
    pub own : Entry
    pub found : find t.image t.pdata now.regs.pc ≡ Ok (Some own)
    pub fits : fitted t.xdata own.word s ≡ Ok tt
    pub shape : Shape
    pub passes4-5 : shape_at t.xdata own.word ≡ Ok shape
    pub view : View Coded
    pub passes6-7 : Views.view size_of coded_at shape ≡ Ok view
    pub fine : Fine (plain view.codes.list)
    pub offset : ℕ
    pub here : offset ≡ even now.regs.pc - t.image - own.start
    pub covers : offset < shape.span
    pub aligned : entry.regs.sp % 4 ≡ 0
    pub lent : entry.regs.sp ≤ end t.stack
    pub stack : now.stack ≡ t.stack
    pub place : Place
    pub undone : List Coded
    pub stopped : Stopped own shape view entry offset now place undone
