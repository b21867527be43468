-- A function, entered in a state and stopped at an instruction boundary of its own, with what is to be said of it: the place, which goes
-- by the pc (RULES 10.20), and the codes of the instructions to undo. Each code has its instruction, without gaps (RULES 10.8): so sizes
-- of codes add up to offsets.
use Rattle.std.specs.Prelude.{ℕ, ◌+◌, ◌≤◌, ◌<◌, ◌≡◌, List, ◌++◌}
use Rattle.words.specs.declared.Place.{Place}
use Rattle.words.specs.declared.Place.TheVariants.{Prologue, Body, Epilogue}
use Rattle.unwinding.specs.CodeList.{total}
use Rattle.unwinding.specs.Shape.{Shape}
use Rattle.unwinding.specs.View.{View, EpilogueOf}
use Rattle.unwinding.specs.declared.Scope.{Scope}
use Rattle.codes.specs.Code.{size}
use Rattle.codes.specs.Condition.{always}
use Rattle.codes.specs.declared.Code.{Code}
use Rattle.pdata.specs.declared.Entry.{Entry}
use Rattle.forward.specs.Saving.{RX}
use Rattle.forward.specs.State.{State}
use Rattle.forward.specs.Prologue.{Done}
use Rattle.forward.specs.Body as Kept
use Rattle.forward.specs.Epilogue.{Ran}
use Rattle.unwinding.specs.Listed.{Of, InNone}
use Rattle.forward.specs.Epilogues.{Fit}

-- the codes from index 0
abbrev pub codes_of : View Code → List Code
codes_of v = v.codes.list

-- the prologue found room in the stack (RULES 10.7): its last SP is its lowest
abbrev pub InStack : State → Type 0
InStack s = s.stack.base ≤ s.regs.sp

pub record InPrologue (v : View Code) (entry : State) (o : ℕ) (now : State) (undone : List Code) : Type 0 where
  pub ahead : List Code
  pub codes : codes_of v ≡ ahead ++ undone
  pub offset : o ≡ total size undone
  pub early : o < v.prologue
  pub done : Done entry undone now
  pub stays : InStack now

-- the whole prologue was left, and the body kept of it what it must. A function without prologue begins as if one had run
-- (RULES 10.19)
pub record Past (cs : List Code) (entry now : State) : Type 0 where
  pub left : State
  pub done : Done entry cs left
  pub stays : InStack left
  pub keeps : Kept.Body cs left now

pub record InBody (v : View Code) (entry : State) (o : ℕ) (now : State) : Type 0 where
  pub late : v.prologue ≤ o
  pub outside : InNone o v.epilogues
  pub past : Past (codes_of v) entry now

pub record InEpilogue (r : Entry) (s : Shape) (v : View Code) (entry : State) (o : ℕ) (now : State) (undone : List Code) : Type 0 where
  pub scope : Scope
  pub read : EpilogueOf Code
  pub listed : Of scope read s.scopes v.epilogues
  pub fit : Fit r scope
  -- its condition (RULES 10.17)
  pub unconditional : read.condition ≡ always
  pub gone : List Code
  pub codes : read.codes.list ≡ gone ++ undone
  pub offset : o ≡ read.start + total size gone
  -- it is not past its last instruction
  pub inside : total size gone < read.size
  pub start : State
  pub past : Past (codes_of v) entry start
  -- what its instructions did
  pub ran : Ran (RX (codes_of v)) gone start now

pub data Stopped (r : Entry) (s : Shape) (v : View Code) (entry : State) (o : ℕ) (now : State) : Place → List Code → Type 0 where
  prologue : {undone : List Code} → InPrologue v entry o now undone → Stopped r s v entry o now Prologue undone
  body : InBody v entry o now → Stopped r s v entry o now Body (codes_of v)
  epilogue : {undone : List Code} → InEpilogue r s v entry o now undone → Stopped r s v entry o now Epilogue undone
