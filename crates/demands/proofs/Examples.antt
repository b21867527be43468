-- The examples of docs/RULES.md, proved of the definitions by computation: RULES 3.10, 4.20, 5.11, 5.12 and 8.13.
-- Assumes nothing.
use Rattle.std.specs.Prelude.{if◌then◌else◌, Ok, Err}
use Prim.Native.Nat.{ℕ, zero, suc, ◌+◌, ◌-◌, ◌*◌, ◌%◌, ◌^◌, ◌≤◌, ◌<◌}
use mathlib.Core.Path.{◌≡◌, refl, sym, ap, ◌∙◌}
use mathlib.Core.List.{List, [], ◌∷◌, ◌++◌}
use mathlib.Core.Bool.{Bool, true, false}
use lib.ListN.{replicate}
use native.Mathlib.Omega.{arith}
use borrow.Author.Tests.{eq-eqb, le-leb, lt-ltb}
use Rattle.words.specs.Bits.{bit, even}
use Rattle.lent.specs.Lent.{Lent, end, word_at}
use Rattle.words.specs.Units.{halfwords, stack_words, code_bytes, stack_bytes}
use Rattle.words.specs.declared.Place.TheVariants.{Leaf, Prologue, Body, Epilogue}
use Rattle.words.specs.declared.Refusal.TheVariants.{InsideInstruction, BadStack}
use Rattle.words.specs.Answer.{Res, ◌>>=◌}
use Rattle.unwinding.specs.CodeList.{run}
use Rattle.unwinding.specs.Shape.{Shape}
use Rattle.unwinding.specs.Todo.{todo}
use Rattle.codes.specs.declared.Code.{Code}
use Rattle.codes.specs.declared.Undo.TheVariants.{Up, Pop, SpFrom}
use Rattle.codes.specs.Code.{size}
use Rattle.codes.specs.Condition.{executing}
use Rattle.machine.specs.declared.Regs.{Regs}
use Rattle.machine.specs.Registers.{reg, set_reg, set_sp}
use Rattle.machine.specs.Step.{stands, load, pop_reg, pop, step}
use Rattle.pdata.specs.Pdata.{find}
use Rattle.packed.specs.Packed.{fields, amount, folded, PF, EF}
use Rattle.packed_codes.specs.PackedCodes.{write_codes}
use Rattle.xdata.specs.Xdata.{xdata_size}
use Rattle.record.specs.Record.{packed_shape, full_shape}
use Rattle.frame.specs.Frame.{Inputs, Caller, fit_stack, returned, within, frame, unwound}
use Rattle.walking.specs.Walk.{walk}
use Rattle.walking.specs.declared.Stop.TheVariants.{End}
use Rattle.report.specs.Report.{report, mark}
use Rattle.listing.specs.Listing.{listing}
use Rattle.text.specs.Text.{text}
use Rattle.listing.proofs.Opened.{opened}
use Rattle.lent.proofs.Bytes.{bytes_of}
use Rattle.record.proofs.At.{at, says}
use Rattle.forward.specs.Met.{At}
use Rattle.forward.proofs.Framed.{stack-end, passed}
use Rattle.forward.proofs.Examples.{own, shape, views, known, framed}

-- the packed word of RULES 4.20 and its code bytes
abbrev c02 : Code
c02 = record { undo = Up (stack_words 2); size = halfwords 1 }

abbrev c_d5 : Code
c_d5 = record { undo = Pop (2 ^ 4 + 2 ^ 5 + 2 ^ 14); size = halfwords 1 }

abbrev packed : Res Shape
packed = packed_shape 0x00910041

packed-codes :
    write_codes 0x00910041
    ≡ Ok (record { bytes = 0x02 ∷ 0xD5 ∷ 0xFF ∷ 0x02 ∷ 0xD5 ∷ 0xFF ∷ replicate 10 0; first = code_bytes 3; second = code_bytes 3 })
unfolding opened
packed-codes = refl

-- its offsets (RULES 5.11)
packed-0 : at packed 0 ≡ says Prologue []
unfolding opened
packed-0 = refl

packed-2 : at packed 2 ≡ says Prologue (c_d5 ∷ [])
unfolding opened
packed-2 = refl

packed-4 : at packed 4 ≡ says Body (c02 ∷ c_d5 ∷ [])
unfolding opened
packed-4 = refl

packed-1C : at packed 0x1C ≡ says Epilogue (c02 ∷ c_d5 ∷ [])
unfolding opened
packed-1C = refl

packed-1E : at packed 0x1E ≡ says Epilogue (c_d5 ∷ [])
unfolding opened
packed-1E = refl

-- the full record of RULES 5.12
abbrev xdata : Lent
xdata = record { base = 0x3000; bytes = bytes_of (0x102000A5 ∷ 0xFD04DDC7 ∷ []) }

abbrev full : Res Shape
full = full_shape xdata 0x3000

abbrev c_c7 : Code
c_c7 = record { undo = SpFrom 7; size = halfwords 1 }

abbrev c_dd : Code
c_dd = record { undo = Pop (0x3F0 + 2 ^ 14); size = halfwords 2 }

abbrev c04 : Code
c04 = record { undo = Up (stack_words 4); size = halfwords 1 }

full_size : xdata_size xdata 0x3000 ≡ Ok 8
unfolding opened
full_size = refl

-- its offsets
full-2 : at full 2 ≡ says Prologue (c04 ∷ [])
unfolding opened
full-2 = refl

full-4 : at full 4 ≡ Err InsideInstruction
unfolding opened
full-4 = refl

full-8 : at full 8 ≡ says Body (c_c7 ∷ c_dd ∷ c04 ∷ [])
unfolding opened
full-8 = refl

full-142 : at full 0x142 ≡ says Epilogue (c_dd ∷ c04 ∷ [])
unfolding opened
full-142 = refl

full-148 : at full 0x148 ≡ says Epilogue []
unfolding opened
full-148 = refl

-- Stack Adjust where folding begins, and below (RULES 4.20)
adjust-3F3 : (stack_bytes (amount (fields (0x3F3 * 2 ^ 22))) ≡ 4044) × (folded (fields (0x3F3 * 2 ^ 22)) ≡ false)
adjust-3F3 = (refl, refl)

adjust-3F4 :
    (amount (fields (0x3F4 * 2 ^ 22)) ≡ stack_words 1) × (PF (fields (0x3F4 * 2 ^ 22)) ≡ true) × (EF (fields (0x3F4 * 2 ^ 22)) ≡ false)
adjust-3F4 = (refl, refl, refl)

-- the report of RULES 8.13
abbrev pub regs : (pc sp : ℕ) → Regs
regs c s = record { r = replicate 13 0; sp = s; lr = 0; pc = c; d = replicate 32 0 }

abbrev pub given : Regs
given = regs 0x00401002 0x20008

abbrev pdata : List ℕ
pdata = bytes_of (0x1000 ∷ 0x00910041 ∷ 0x2000 ∷ 0x00100081 ∷ [])

abbrev stack : List ℕ
stack = bytes_of (0 ∷ 0 ∷ 0x44 ∷ 0x55 ∷ 0x00402011 ∷ 0x66 ∷ 0 ∷ [])

abbrev pub inputs : Inputs
inputs =
    record { image = 0x00400000; pdata = pdata; xdata = record { base = 0; bytes = [] }; stack = record { base = 0x20000; bytes = stack } }

pub listing-walk :
    walk inputs 256 given
    ≡ record { frames = record { pc = 0x00401002; sp = 0x20008; place = Prologue } ∷ record { pc = 0x00402010; sp = 0x20014; place = Body } ∷ []; stop = End; codes = 2 }
unfolding opened
listing-walk = refl

-- from the report's bytes to the printed bytes
abbrev file : List ℕ
file =
    mark ++ bytes_of (0x00400000 ∷ 2 ∷ 0 ∷ 0 ∷ 0x20000 ∷ 28 ∷ replicate 13 0) ++ bytes_of (0x20008 ∷ 0 ∷ 0x00401002 ∷ []) ++ replicate 256 0
    ++ pdata
    ++ stack

listing-report : report file ≡ Ok (record { inputs = inputs; regs = given })
unfolding opened
listing-report = refl

listing-printed :
    listing file
    ≡ text "frame pc sp place\n0 00401002 00020008 prologue\n1 00402010 00020014 body\nend frames 2 codes 2\n"
unfolding opened
listing-printed = refl

-- the packed word at offset 0x20, which it does not cover (RULES 5.11): the caller of a leaf
packed-20 : frame inputs (regs 0x00401020 0x20008) ≡ Ok (record { regs = regs 0 0x20008; place = Leaf; handler = 0; codes = 0 })
unfolding opened
packed-20 = refl

-- offset 2 with all its registers: r4, r5 and LR loaded
pub packed-2-frame :
    frame inputs given
    ≡ Ok
    (record { regs = record { r = 0 ∷ 0 ∷ 0 ∷ 0 ∷ 0x44 ∷ 0x55 ∷ replicate 7 0; sp = 0x20014; lr = 0x00402011; pc = 0x00402010; d = replicate 32 0 }; place = Prologue; handler = 0; codes = 1 })
unfolding opened
packed-2-frame = refl

-- offset 8 of the full record, with all its registers, at r7 = 0x20004
abbrev sevens : Regs
sevens = record { r = replicate 7 0 ++ (0x20004 ∷ replicate 5 0); sp = 0x20000; lr = 0; pc = 0x00401008; d = replicate 32 0 }

abbrev full_on : Lent → Inputs
full_on k = record { image = 0x00400000; pdata = bytes_of (0x1000 ∷ 0x3000 ∷ []); xdata = xdata; stack = k }

abbrev full_inputs : Inputs
full_inputs = full_on (record { base = 0x20000; bytes = bytes_of (1 ∷ 4 ∷ 5 ∷ 6 ∷ 7 ∷ 8 ∷ 9 ∷ 0x401235 ∷ 0 ∷ 0 ∷ 0 ∷ 0 ∷ []) })

full-8-frame :
    frame full_inputs sevens
    ≡ Ok
    (record { regs = record { r = 0 ∷ 0 ∷ 0 ∷ 0 ∷ 4 ∷ 5 ∷ 6 ∷ 7 ∷ 8 ∷ 9 ∷ 0 ∷ 0 ∷ 0 ∷ []; sp = 0x20004 + 44; lr = 0x401235; pc = 0x401234; d = replicate 32 0 }; place = Body; handler = 0; codes = 3 })
unfolding opened
full-8-frame = refl

-- the SP of RULES 5.12 at offset 8, for every r7 that is divisible by 4 and from which the loads stay in a stack that passes 1, in which
-- the given SP stands, not above the caller's
pub record Sevens (k : Lent) (g : Regs) : Type 0 where
  pub fit : fit_stack k ≡ true
  pub pc : g.pc ≡ 0x00401008
  pub aligned : reg g 7 % 4 ≡ 0
  pub low : k.base ≤ reg g 7
  pub high : reg g 7 + 44 ≤ end k
  pub sp_aligned : g.sp % 4 ≡ 0
  pub sp_low : k.base ≤ g.sp
  pub sp_high : g.sp ≤ reg g 7 + 44

-- it answers, and SP moves up by n
record Moves (act : Regs → Res Regs) (g : Regs) (n : ℕ) : Type 0 where
  next : Regs
  runs : act g ≡ Ok next
  sp : next.sp ≡ g.sp + n

module _ (k : Lent) (fit : fit_stack k ≡ true) where
  standing : (a : ℕ) → a % 4 ≡ 0 → k.base ≤ a → a ≤ end k → stands k a ≡ true
  standing a h low high =
      let q : a < 2 ^ 32 = omega (arith, stack-end k fit) in
      rw (eq-eqb (a % 4) 0 h, le-leb _ _ low, le-leb _ _ high, lt-ltb _ _ q) refl

  -- the registers of a list with numbers below n
  count : (l n : ℕ) → ℕ
  count l zero = 0
  count l (suc n) = count l n + (if bit n l then 1 else 0)

  moves-one : (t : Bool) (x : ℕ) (g : Regs) → k.base ≤ g.sp → g.sp + 4 * (if t then 1 else 0) ≤ end k → Moves (λ h. if t then pop_reg k x h else Ok h) g (4 * (if t then 1 else 0))
  unfolding load pop_reg
  moves-one true x g b h =
      record { next = set_sp (set_reg g x (word_at k g.sp)) (g.sp + 4); runs = rw (le-leb k.base g.sp b, le-leb (g.sp + 4) (end k) h) refl; sp = refl }
  moves-one false x g b h = record { next = g; runs = refl; sp = omega arith }

  moves-pop : (l n : ℕ) (g : Regs) → k.base ≤ g.sp → g.sp + 4 * count l n ≤ end k → Moves (λ h. pop k l n h) g (4 * count l n)
  unfolding pop count
  moves-pop l zero g b h = record { next = g; runs = refl; sp = omega arith }
  moves-pop l (suc n) g b h =
      let i = moves-pop l n g b (omega arith) in
      let j = moves-one (bit n l) n i.next (omega (arith, i.sp)) (omega (arith, i.sp)) in
      record {
        next = j.next;
        runs = ap (λ x. x >>= λ h. if bit n l then pop_reg k n h else Ok h) i.runs ∙ j.runs;
        sp = omega (arith, i.sp, j.sp);
      }

  -- C7 DD 04
  moves-all : (g : Regs) → reg g 7 % 4 ≡ 0 → k.base ≤ reg g 7 → reg g 7 + 44 ≤ end k → (h : Regs) × (run (step k) (c_c7 ∷ c_dd ∷ c04 ∷ []) g ≡ Ok h) × (h.sp ≡ reg g 7 + 44)
  unfolding run step count
  moves-all g al low high =
      let a : ℕ = reg g 7 in
      let i = moves-pop (0x3F0 + 2 ^ 14) 15 (set_sp g a) low (omega arith) in
      let p : i.next.sp ≡ a + 28 = i.sp in
      let last : i.next.sp + 16 ≡ a + 44 = omega arith in (
        set_sp i.next (i.next.sp + 16),
        rw (standing a al low (omega arith), i.runs, standing i.next.sp (omega arith) (omega arith) (omega arith), standing (i.next.sp + 16) (omega arith) (omega arith) (omega arith)) refl,
        last,
      )

-- what the record says there
all_three : todo size executing (views framed) 8 ≡ says Body (c_c7 ∷ c_dd ∷ c04 ∷ [])
unfolding opened
all_three = refl

full-8-here : At (full_on (record { base = 0; bytes = [] })) (own framed) (shape framed) (views framed) 0x00401008 8
unfolding opened
full-8-here = known framed 8 refl (omega arith)

abbrev pub AllThree : Regs → Caller → Type 0
AllThree g c = (c.place ≡ Body) × (c.codes ≡ 3) × (c.regs.sp ≡ reg g 7 + 44)

full-8-within : (k : Lent) (g : Regs) → Sevens k g → (c : Caller) × (within k (shape framed) 8 g ≡ Ok c) × AllThree g c
unfolding within
full-8-within k g s =
    let m = moves-all k s.fit g s.aligned s.low s.high in
    let up : g.sp ≤ m.0.sp = omega (arith, s.sp_high, m.2) in (
      record { regs = returned m.0; place = Body; handler = (shape framed).handler; codes = 3 },
      rw (full-8-here.passes6-7, all_three, m.1, le-leb _ _ up) refl,
      (refl, refl, m.2),
    )

pub full-8-law : (k : Lent) (g : Regs) → Sevens k g → (c : Caller) × (frame (full_on k) g ≡ Ok c) × AllThree g c
full-8-law k g s =
    let w = full-8-within k g s in
    let at = full-8-here in (
      w.0,
      passed (full_on k) k g (own framed) (shape framed) 8 w.0 s.fit at.passes1 (ap (find 0x00400000 (full_on k).pdata) s.pc ∙ at.found)
          (standing k s.fit g.sp s.sp_aligned s.sp_low (omega (arith, s.sp_high, s.high)))
          at.passes4-5
          (at.here ∙ ap (λ x. even x - 0x00400000 - 0x1000) (sym s.pc))
          at.covers
          w.1,
      w.2,
    )

-- the stack's last word can be loaded (RULES 3.10), a word more is 8, and then the registers come back as given
abbrev short : ℕ → Inputs
short n =
    record { image = 0x00400000; pdata = pdata; xdata = record { base = 0; bytes = [] }; stack = record { base = 0x20008; bytes = bytes_of (replicate n 7) } }

last_word :
    frame (short 3) given
    ≡ Ok (record { regs = record { r = 0 ∷ 0 ∷ 0 ∷ 0 ∷ 7 ∷ 7 ∷ replicate 7 0; sp = 0x20014; lr = 7; pc = 6; d = replicate 32 0 }; place = Prologue; handler = 0; codes = 1 })
unfolding opened
last_word = refl

one_more :
    unwound given (frame (short 2) given) ≡ record { regs = given; told = Err BadStack }
unfolding opened
one_more = refl
