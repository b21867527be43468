-- One frame (RULES 6), with its refusals in the order of RULES 9.50.
use Rattle.std.specs.Prelude.{ℕ, ◌-◌, ◌%◌, ◌^◌, List, Bool, true, false, ◌&&◌, length, leb, ltb, eqb, if◌then◌else◌, Option, Ok, Err}
use Rattle.words.specs.Bits.{even}
use Rattle.lent.specs.Lent.{Lent, lent, end}
use Rattle.words.specs.declared.Place.{Place}
use Rattle.words.specs.declared.Place.TheVariants.{Leaf}
use Rattle.words.specs.declared.Refusal.TheVariants.{UnfitInput, BadStack, SpFell, NoRecord}
use Rattle.words.specs.Answer.{Res, ◌>>=◌, ◌>>◌, need, maybe, or_else}
use Rattle.unwinding.specs.CodeList.{run}
use Rattle.unwinding.specs.Shape.{Shape}
use Rattle.unwinding.specs.View.{view}
use Rattle.unwinding.specs.Todo.{todo}
use Rattle.codes.specs.Code.{size, codes_at}
use Rattle.codes.specs.Condition.{executing}
use Rattle.machine.specs.declared.Regs.{Regs}
use Rattle.machine.specs.Registers.{set_pc}
use Rattle.machine.specs.Step.{stands, step}
use Rattle.pdata.specs.declared.Entry.{Entry}
use Rattle.pdata.specs.Pdata.{find}
use Rattle.pdata.specs.Pdata as Pdata
use Rattle.xdata.specs.Xdata.{fit_xdata}
use Rattle.record.specs.Record.{shape_of}
use Rattle.frame.specs.declared.Told.{Told}
use Rattle.frame.specs.declared.Unwound.{Unwound}
use Rattle.pdata.specs.declared.Checked.{Checked}

-- what is lent beside the registers (RULES 1.1)
pub record Inputs : Type 0 where
  pub image : ℕ
  pub pdata : List ℕ
  pub xdata : Lent
  pub stack : Lent

abbrev pub inputs : (image : ℕ) → (pdata : List ℕ) → (rva : ℕ) → (xdata : List ℕ) → (base : ℕ) → (stack : List ℕ) → Inputs
inputs i p r x b k = record { image = i; pdata = p; xdata = lent r x; stack = lent b k }

-- what 1 asks of the stack (RULES 9.1)
abbrev pub fit_stack : Lent → Bool
fit_stack k = eqb (k.base % 4) 0 && eqb (length k.bytes % 4) 0 && leb (end k) (2 ^ 32 - 4)

-- what a frame that is not refused comes to (RULES 6.1, 6.4 to 6.6)
pub record Caller : Type 0 where
  pub regs : Regs
  pub place : Place
  pub handler : ℕ
  pub codes : ℕ

-- back in the caller: its pc is in LR, which stays as it is (RULES 6.2, 6.3)
abbrev pub returned : Regs → Regs
returned g = set_pc g (even g.lr)

abbrev pub leaf_of : Regs → Caller
leaf_of g = record { regs = returned g; place = Leaf; handler = 0; codes = 0 }

-- nothing covers the pc: a leaf in the first frame, 12 in a later one (RULES 5.2, 6.2)
abbrev pub uncovered : (first : Bool) → Regs → Res Caller
uncovered true g = Ok (leaf_of g)
uncovered false g = Err NoRecord

-- at an offset of a function that covers it: the view (6, 7), the place (9, 10), the codes one by one (8), SP at last (11; RULES 6.3)
unfoldable pub within : (stack : Lent) → Shape → (offset : ℕ) → Regs → Res Caller
within k s o g = do
  v ← view size codes_at s
  t ← todo size executing v o
  h ← run (step k) t.codes g
  need (leb g.sp h.sp) SpFell
  Ok (record { regs = returned h; place = t.place; handler = s.handler; codes = length t.codes })

-- by the record found, at the offset of RULES 5.1
unfoldable pub by_record : (first : Bool) → Inputs → Entry → Regs → Res Caller
by_record first t e g = do
  s ← shape_of t.xdata e
  let o = even g.pc - t.image - e.start
  if ltb o s.span then within t.stack s o g else uncovered first g

-- after the search: the SP that was given (8), before the record is read (RULES 9.50)
abbrev pub after_find : (first : Bool) → Inputs → Regs → Res (Option Entry) → Res Caller
after_find first t g found = do
  e ← found
  need (stands t.stack g.sp) BadStack
  maybe e (uncovered first g) (λ e. by_record first t e g)

-- the frame, first of a walk (as one by itself is) or later
unfoldable pub frame_of : (first : Bool) → Inputs → Regs → Res Caller
frame_of first t g = do
  need (fit_stack t.stack && fit_xdata t.xdata) UnfitInput
  after_find first t g (find t.image t.pdata g.pc)

abbrev pub frame : Inputs → Regs → Res Caller
frame t g = frame_of true t g

-- the whole answer; a refusal has the registers as they came (RULES 6.7)
abbrev pub unwound : Regs → Res Caller → Unwound
unwound g (Ok c) = record { regs = c.regs; told = Ok (record { place = c.place; handler = c.handler; codes = c.codes }) }
unwound g (Err r) = record { regs = g; told = Err r }

-- what an answer counts as beside its registers; a refused one has place leaf, handler 0 and 0 codes (RULES 6.7)
abbrev pub told_of : Unwound → Told
told_of u = or_else u.told (record { place = Leaf; handler = 0; codes = 0 })

-- the checks that read the tables alone, 1 and 3: a walk makes them once
abbrev pub checked : Inputs → Checked
checked t =
    let c = Pdata.checked t.pdata in
    record { fit = fit_stack t.stack && fit_xdata t.xdata && c.fit; sorted = c.sorted }
