-- That what demand 3 asks can be met (RULES 10.21): which code lists have a prologue at all, what it is to reach a place of a record, and
-- that every place is reached, from any registers and on from any state in which a function may stand.
use Rattle.std.specs.Prelude.{ℕ, ◌+◌, ◌-◌, ◌%◌, ◌^◌, ◌≤◌, ◌<◌, ◌≡◌, ◌≢◌, List, [], ◌∷◌, ◌++◌, true, get_or, Some, Ok}
use Rattle.words.specs.Bits.{even}
use Rattle.lent.specs.Lent.{end}
use Rattle.words.specs.declared.Place.{Place}
use Rattle.words.specs.declared.Place.TheVariants.{Prologue, Body, Epilogue}
use Rattle.unwinding.specs.CodeList.{total}
use Rattle.unwinding.specs.Shape.{Shape}
use Rattle.unwinding.specs.View.{EpilogueOf, View, view}
use Rattle.unwinding.specs.declared.Scope.{Scope}
use Rattle.codes.specs.Code.{size, codes_at}
use Rattle.codes.specs.Condition.{always}
use Rattle.codes.specs.declared.Code.{Code}
use Rattle.codes.specs.declared.Undo.{Undo}
use Rattle.codes.specs.declared.Undo.TheVariants.{Up, Pop, SpFrom, Vpop, LoadLr, Nothing}
use Rattle.pdata.specs.Pdata.{find}
use Rattle.xdata.specs.Xdata.{fit_xdata}
use Rattle.record.specs.Record.{shape_of}
use Rattle.pdata.specs.declared.Entry.{Entry}
use Rattle.frame.specs.Frame.{Inputs, fit_stack}
use Rattle.forward.specs.Registers.{Lasting}
use Rattle.forward.specs.Saving.{falls, Saved, RX}
use Rattle.forward.specs.State.{State}
use Rattle.forward.specs.Prologue.{Does, Done}
use Rattle.forward.specs.Epilogue.{Ran}
use Rattle.unwinding.specs.Listed.{Of, InNone}
use Rattle.forward.specs.Epilogues.{Fit}
use Rattle.forward.specs.Stop.{codes_of, Past}
use Rattle.forward.specs.Demand.{lending, Asked}

-- what RULES 10.12 asks of a copy to rX: rX is a register, there was no copy before, and rX is saved if it must last
pub record FineRX (before : List Code) (x : ℕ) : Type 0 where
  pub named : x < 15
  pub other : x ≢ 13
  pub once : (y : ℕ) → RX before y → ⊥
  pub saved : Lasting x → Saved before x

-- what RULES 10.10 and 10.12 ask of a code, after these codes' instructions
abbrev pub FineOne : (before : List Code) → Undo → Type 0
FineOne before (Up n) = Unit {0}
FineOne before (Pop l) = Unit {0}
FineOne before (SpFrom x) = FineRX before x
FineOne before (Vpop s e) = Unit {0}
FineOne before (LoadLr n) = 0 < n.0
FineOne before Nothing = Unit {0}

abbrev pub Fine : List Code → Type 0
Fine [] = Unit {0}
Fine (c ∷ cs) = FineOne cs c.undo × Fine cs

-- the bytes that their instructions take below the entry's SP
abbrev pub room : List Code → ℕ
room [] = 0
room (c ∷ cs) = falls c.undo + room cs

-- registers of 32 bits, d registers of 64, and bytes: as a report has them
pub record Plain (s : State) : Type 0 where
  pub r : (i : ℕ) → get_or s.regs.r i 0 < 2 ^ 32
  pub sp : s.regs.sp < 2 ^ 32
  pub lr : s.regs.lr < 2 ^ 32
  pub pc : s.regs.pc < 2 ^ 32
  pub d : (i : ℕ) → get_or s.regs.d i 0 < 2 ^ 64
  pub bytes : (i : ℕ) → get_or s.stack.bytes i 0 < 2 ^ 8

-- a function entered in a state comes to stand where these codes are left to undo, and the conditions hold
pub record Reaches (t : Inputs) (entry : State) (offset : ℕ) (p : Place) (undone : List Code) : Type 0 where
  pub now : State
  pub asked : Asked (lending t now.stack) entry now
  pub here : asked.offset ≡ offset
  pub place : asked.place ≡ p
  pub codes : asked.undone ≡ undone
  pub plain : Plain entry → Plain now

-- what the conditions ask of the tables: they pass 1 to 7 and this is their record at the pc, which stands at this offset of its function
pub record At (t : Inputs) (own : Entry) (s : Shape) (v : View Code) (pc o : ℕ) : Type 0 where
  pub passes1 : fit_xdata t.xdata ≡ true
  pub found : find t.image t.pdata pc ≡ Ok (Some own)
  pub passes4-5 : shape_of t.xdata own ≡ Ok s
  pub passes6-7 : view size codes_at s ≡ Ok v
  pub here : o ≡ even pc - t.image - own.start
  pub covers : o < s.span
  pub small : pc < 2 ^ 32

-- what they ask of the entry: a stack that passes 1, and in it SP, a multiple of 4, with n bytes below
pub record Roomy (e : State) (n : ℕ) : Type 0 where
  pub fit : fit_stack e.stack ≡ true
  pub aligned : e.regs.sp % 4 ≡ 0
  pub high : e.regs.sp ≤ end e.stack
  pub low : e.stack.base + n ≤ e.regs.sp

-- the boundaries of a record's instructions: the offset, the place, and the codes that are left to undo
pub data Boundary (own : Entry) (s : Shape) (v : View Code) : ℕ → Place → List Code → Type 0 where
  prologue :
      (ahead undone : List Code) → codes_of v ≡ ahead ++ undone → total size undone < v.prologue
      → Boundary own s v (total size undone) Prologue undone
  body : {o : ℕ} → v.prologue ≤ o → InNone o v.epilogues → Boundary own s v o Body (codes_of v)
  epilogue :
      {sc : Scope} {ex : EpilogueOf Code} (gone undone : List Code) → Of sc ex s.scopes v.epilogues → Fit own sc → ex.condition ≡ always
      → ex.codes.list ≡ gone ++ undone
      → total size gone < ex.size
      → Boundary own s v (ex.start + total size gone) Epilogue undone

-- more of a prologue's instructions run, from a state that those of `before` left
pub data Went (before : List Code) (s : State) : List Code → State → Type 0 where
  stays : Went before s [] s
  goes : {cs : List Code} {t u : State} (c : Code) → Went before s cs t → Does (cs ++ before) c.undo t u → Went before s (c ∷ cs) u

-- the rest of a prologue was run, and the body went to a pc
pub record Begun (e mid : State) (cs more done : List Code) (pc : ℕ) : Type 0 where
  pub start : State
  pub past : Past cs e start
  pub went : Went done mid more past.left
  pub at : start.regs.pc ≡ pc
  pub plain : Plain e → Plain start

-- The conditions can be met at every boundary of every record whose codes are fine: from any registers, with room for the prologue
abbrev pub Everywhere : Inputs → Entry → Shape → View Code → State → Type 0
Everywhere t own s v e =
    (o : ℕ) (p : Place) (undone : List Code)
    → Boundary own s v o p undone
    → At t own s v (e.regs.pc + o) o
    → Fine (codes_of v)
    → Roomy e (room (codes_of v))
    → Reaches t e o p undone

-- in the prologue: from any state that some of its instructions may have left, a later boundary
abbrev pub Onward : Inputs → Entry → Shape → View Code → State → Type 0
Onward t own s v e =
    (mid : State) (ahead undone more done : List Code)
    → At t own s v (mid.regs.pc + total size more) (total size undone)
    → codes_of v ≡ ahead ++ undone
    → undone ≡ more ++ done
    → total size undone < v.prologue
    → Fine undone
    → Roomy e (room undone)
    → Done e done mid
    → (Plain e → Plain mid)
    → (r : Reaches t e (total size undone) Prologue undone) × Went done mid more r.now

-- and from any such state the body, at any pc
abbrev pub Onset : State → Type 0
Onset e =
    (mid : State) (cs more done : List Code) (pc : ℕ)
    → cs ≡ more ++ done
    → Fine cs
    → Roomy e (room cs)
    → pc < 2 ^ 32
    → Done e done mid
    → (Plain e → Plain mid)
    → Begun e mid cs more done pc

-- in the body: any state that it may leave
abbrev pub Used : Inputs → Entry → Shape → View Code → State → Type 0
Used t own s v e =
    (o : ℕ) (now : State)
    → At t own s v now.regs.pc o
    → v.prologue ≤ o
    → InNone o v.epilogues
    → Roomy e 0
    → Past (codes_of v) e now
    → (Plain e → Plain now)
    → (r : Reaches t e o Body (codes_of v)) × (r.now ≡ now)

-- in an epilogue: from any state that the body may leave, and some of the epilogue's instructions then, a later boundary
abbrev pub Leaving : Inputs → Entry → Shape → View Code → State → Type 0
Leaving t own s v e =
    (sc : Scope) (ex : EpilogueOf Code) (start mid : State) (gone more undone : List Code)
    → At t own s v (mid.regs.pc + total size more) (ex.start + total size (gone ++ more))
    → Of sc ex s.scopes v.epilogues
    → Fit own sc
    → ex.condition ≡ always
    → ex.codes.list ≡ (gone ++ more) ++ undone
    → total size (gone ++ more) < ex.size
    → Roomy e 0
    → Past (codes_of v) e start
    → Ran (RX (codes_of v)) gone start mid
    → (Plain e → Plain mid)
    → (r : Reaches t e (ex.start + total size (gone ++ more)) Epilogue undone) × Ran (RX (codes_of v)) more mid r.now

pub record Met (t : Inputs) (own : Entry) (s : Shape) (v : View Code) (e : State) : Type 0 where
  pub everywhere : Everywhere t own s v e
  pub onward : Onward t own s v e
  pub onset : Onset e
  pub used : Used t own s v e
  pub leaving : Leaving t own s v e
