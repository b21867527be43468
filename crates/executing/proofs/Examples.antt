-- The conditions of demand 3 of functions whose record fits can be met: functions that were entered with any registers and whose
-- instructions were executed by the manual come to stand in their prologue, body and epilogue.
-- Assumes nothing.
use Rattle.std.specs.Prelude.{Ok, Option, Some}
use Prim.Native.Nat.{ℕ, ◌+◌, ◌-◌, ◌%◌, ◌^◌, ◌≤◌, ◌<◌}
use mathlib.Core.Path.{◌≡◌, refl, sym, ap, subst, ◌∙◌}
use mathlib.Core.List.{List, [], ◌∷◌, ◌++◌}
use mathlib.Core.Bool.{Bool, true, false}
use mathlib.Core.Logic.{◌≢◌, inl}
use lib.Dec.{eqb}
use lib.ListN.{length, replicate}
use native.Mathlib.Omega.{arith}
use borrow.Author.Tests.{eqb-false}
use Rattle.words.specs.Bits.{even}
use Rattle.words.specs.Units.{halfwords}
use Rattle.words.specs.Answer.{Res, or_else}
use Rattle.words.specs.declared.Place.{Place}
use Rattle.words.specs.declared.Place.TheVariants.{Prologue, Body, Epilogue}
use Rattle.lent.specs.Lent.{Lent, end}
use Rattle.lent.proofs.Bytes.{bytes_of}
use Rattle.unwinding.specs.CodeList.{total}
use Rattle.unwinding.specs.Shape.{Shape}
use Rattle.unwinding.specs.View.{EpilogueOf, View, view}
use Rattle.unwinding.specs.Listed.{Of, here, InNone}
use Rattle.unwinding.specs.declared.Scope.{Scope}
use Rattle.codes.specs.Condition.{always}
use Rattle.machine.specs.Registers.{set_reg, set_sp, set_pc}
use Rattle.machine.specs.declared.Regs.{Regs}
use Rattle.pdata.specs.Pdata.{find}
use Rattle.pdata.specs.declared.Entry.{Entry}
use Rattle.record.specs.Record.{shape_at}
use Rattle.frame.specs.Frame.{Inputs}
use Rattle.thumb.specs.Instruction.{instruction_at}
use Rattle.thumb.specs.declared.Action.{Action}
use Rattle.thumb.specs.declared.Action.TheVariants.{Push, SubSp, AddSp, Mov}
use Rattle.thumb.specs.declared.Instruction.{Instruction}
use Rattle.comparing.specs.Items.{Coded, size_of, coded_at}
use Rattle.fitting.specs.Fitting.{Fitted, fitted}
use Rattle.fitting.proofs.Examples.{opened}
use Rattle.forward.specs.Registers.{value, width}
use Rattle.forward.specs.Saving.{RX, bytes}
use Rattle.forward.specs.State.{Whole, State}
use Rattle.forward.specs.Prologue.{Stored}
use Rattle.forward.specs.Epilogues.{Fit, packed}
use Rattle.forward.specs.Demand.{lending}
use Rattle.forward.specs.Met.{Fine, room, Roomy}
use Rattle.forward.proofs.Ops.{upd, upd-cases}
use Rattle.forward.proofs.Writing.{whole_reg, value-reg}
use Rattle.forward.proofs.Executing.{standing}
use Rattle.forward.proofs.Storing.{store_all, store-all-outside, store-all-stored}
use Rattle.forward.proofs.Reaching.{idle, less-room}
use Rattle.forward.proofs.Framed.{fit-like, stack-end}
use Rattle.forward.proofs.Examples.{Tables, inputs, own, shape, up2, up4, pop45lr, pop4to9lr, sp_r7, rx7, entry, entered}
use Rattle.forward.proofs.Examples as Forward
use Rattle.executing.specs.Manual.{all, Has, Stores, Loads, Moves, Passes, Executes}
use Rattle.executing.specs.Executed as E
use Rattle.executing.specs.Executed.{plain, Opened, Closed, Stopped, prologue, body, epilogue, Executed}
use Rattle.executing.proofs.Registers.{all-value}
use Rattle.executing.proofs.Opening.{Stays}

-- ---- instructions, executed
has_of : (k : Lent) (a : ℕ) (xs : List ℕ) (g : Regs) → Stored k a xs g → Has k a xs g
has_of k a [] g h = tt
has_of k a (x ∷ xs) g h = (λ q. h.0, has_of k (a + width x) xs g h.1)

-- a state that one leaves which has m bytes and lowers SP by n, with registers stored from there up
record Lowered (n : ℕ) (xs : List ℕ) (m : ℕ) (s : State) : Type 0 where
  now : State
  stores : Stores n xs s now
  passes : Passes m s now
  sp : now.regs.sp + n ≡ s.regs.sp
  pc : now.regs.pc ≡ s.regs.pc + m
  base : now.stack.base ≡ s.stack.base
  long : length now.stack.bytes ≡ length s.stack.bytes

lower :
    (n : ℕ) (xs : List ℕ) (m : ℕ) (s : State) → bytes xs ≤ n → s.stack.base + n ≤ s.regs.sp → s.regs.sp ≤ end s.stack → end s.stack < 2 ^ 32
    → s.regs.pc + m < 2 ^ 32
    → Lowered n xs m s
lower n xs m s few low high small near =
    let a : ℕ = s.regs.sp - n in
    let b : s.stack.base ≤ a = omega arith in
    let h : a + bytes xs ≤ end s.stack = omega arith in
    let o = store-all-outside xs s.stack a s.regs b h in
    let w : Whole s.regs = s.whole in
    record {
      now = record { regs = set_pc (set_sp s.regs a) (s.regs.pc + m); stack = store_all s.stack a xs s.regs; whole = record { r = w.r; d = w.d } };
      stores = record {
        sp = omega arith;
        stored = has_of (store_all s.stack a xs s.regs) a xs s.regs (store-all-stored xs s.stack a s.regs b h);
        rest = record { r = refl; lr = refl; d = refl };
        stack = o;
      };
      passes = omega arith;
      sp = omega arith;
      pc = refl;
      base = o.base;
      long = o.long;
    }

-- and that one leaves which raises SP
record Raised (n m : ℕ) (s : State) : Type 0 where
  now : State
  loads : Loads n [] s now
  passes : Passes m s now
  pc : now.regs.pc ≡ s.regs.pc + m
  stack : now.stack ≡ s.stack

raise : (n m : ℕ) (s : State) → s.regs.sp + n < 2 ^ 32 → s.regs.pc + m < 2 ^ 32 → Raised n m s
raise n m s high near =
    let w : Whole s.regs = s.whole in
    record {
      now = record { regs = set_pc (set_sp s.regs (s.regs.sp + n)) (s.regs.pc + m); stack = s.stack; whole = record { r = w.r; d = w.d } };
      loads = record { sp = omega arith; loaded = tt; rest = λ x q. refl; stack = refl };
      passes = omega arith;
      pc = refl;
      stack = refl;
    }

-- and that MOV leaves which copies SP to another register
record Copied (x m : ℕ) (s : State) : Type 0 where
  now : State
  moves : Moves x 13 s now
  passes : Passes m s now
  sp : now.regs.sp ≡ s.regs.sp
  pc : now.regs.pc ≡ s.regs.pc + m
  stack : now.stack ≡ s.stack

copy : (x m : ℕ) (s : State) → x < 15 → x ≢ 13 → s.regs.pc + m < 2 ^ 32 → Copied x m s
copy x m s l n near =
    record {
      now = now;
      moves = record { taken = λ q. all-value now.regs x n q ∙ taken; rest = λ y q z. rest y q z (eqb y 13) refl; stack = refl };
      passes = omega arith;
      sp = refl;
      pc = refl;
      stack = refl;
    }
  where
    now : State
    now =
        let w : Whole (set_reg s.regs x s.regs.sp) = whole_reg x s.regs.sp s.whole in
        record { regs = set_pc (set_reg s.regs x s.regs.sp) (s.regs.pc + m); stack = s.stack; whole = record { r = w.r; d = w.d } }

    same : value now.regs ≡ upd (value s.regs) x s.regs.sp
    same = value-reg s.regs x s.regs.sp s.whole l n

    taken : value now.regs x ≡ s.regs.sp
    taken = ap (λ v. v x) same ∙ upd-cases (λ v. v ≡ s.regs.sp) (value s.regs) x s.regs.sp x (λ q. refl) (λ q. absurd (q refl))

    kept : (y : ℕ) → y ≢ x → value now.regs y ≡ value s.regs y
    kept y q = ap (λ v. v y) same ∙ upd-cases (λ v. v ≡ value s.regs y) (value s.regs) x s.regs.sp y (λ z. absurd (q z)) (λ z. refl)

    rest : (y : ℕ) → y ≢ x → y ≢ 15 → (b : Bool) → eqb y 13 ≡ b → all now.regs y ≡ all s.regs y
    rest y q z true e = rw e refl
    rest y q z false e =
        let o : y ≢ 13 = eqb-false y 13 e in
        all-value now.regs y o z ∙ kept y q ∙ sym (all-value s.regs y o z)

-- ---- tables with one record, beside the bytes of its function
abbrev pub views : Tables → View Coded
views k = or_else (view size_of coded_at (shape k)) (record { codes = record { list = []; end_size = 0 }; prologue = 0; epilogues = [] })

-- the record is found at an offset and fits, and this is what it says
abbrev sees : Tables → List ℕ → ℕ → Res (Option Entry) × Fitted × Res Shape × Res (View Coded) × ℕ
sees k s o =
    let t : Inputs = inputs k in
    let pc : ℕ = 0x00401000 + o in
    (find t.image t.pdata pc, fitted t.xdata k.word s, shape_at t.xdata k.word, view size_of coded_at (shape k), even pc - t.image - (own k).start)

abbrev Sees : Tables → List ℕ → ℕ → Type 0
Sees k s o = sees k s o ≡ (Ok (Some (own k)), Ok tt, Ok (shape k), Ok (views k), o)

-- a function entered in a state comes to stand at an offset where these codes are left to undo, and the conditions hold
pub record Reaches (s : List ℕ) (t : Inputs) (entry : State) (offset : ℕ) (p : Place) (undone : List Coded) : Type 0 where
  pub now : State
  pub executed : Executed s (lending t now.stack) entry now
  pub here : executed.offset ≡ offset
  pub place : executed.place ≡ p
  pub codes : executed.undone ≡ undone

-- an entry: any registers but pc and SP, and any stack that passes 1 with n bytes below SP
pub record Enters (n : ℕ) (e : State) : Type 0 where
  pub roomy : Roomy e n
  pub pc : e.regs.pc ≡ 0x00401000

-- there are such entries
pub enters : (n : ℕ) → n ≤ 1024 → (g : Regs) (w : Whole g) → Enters n (entry g w)
enters n h g w = record { roomy = less-room h (entered g w).roomy; pc = (entered g w).pc }

small : {n : ℕ} {e : State} → Enters n e → end e.stack < 2 ^ 32
small {e = e} h = stack-end e.stack h.roomy.fit

module _ (k : Tables) (s : List ℕ) (e : State) (n : ℕ) (h : Enters n e) where
  reach :
      (o : ℕ) (now : State) (p : Place) (undone : List Coded) → Sees k s o → o < (shape k).span → Fine (plain (views k).codes.list) → Stays e now
      → now.regs.pc ≡ 0x00401000 + o
      → Stopped s (own k) (shape k) (views k) e o now p undone
      → Reaches s (inputs k) e o p undone
  reach o now p undone a c f m q z = record {
    now = now;
    executed = record {
      passes1 = fit-like e.stack now.stack m.base m.long ∙ h.roomy.fit;
      own = own k;
      found = ap (find (inputs k).image (inputs k).pdata) q ∙ ap (λ x. x.0) a;
      fits = ap (λ x. x.1) a;
      shape = shape k;
      passes4-5 = ap (λ x. x.2) a;
      view = views k;
      passes6-7 = ap (λ x. x.3) a;
      fine = f;
      offset = o;
      here = sym (ap (λ x. x.4) a) ∙ ap (λ x. even x - (inputs k).image - (own k).start) (sym q);
      covers = c;
      aligned = h.roomy.aligned;
      lent = omega (arith, h.roomy.high, m.base, m.long);
      stack = refl;
      place = p;
      undone = undone;
      stopped = z;
    };
    here = refl;
    place = refl;
    codes = refl;
  }

  -- behind the instructions of these codes of the prologue
  in-prologue :
      (o : ℕ) (ahead undone : List Coded) (now : State) → Sees k s o → (views k).codes.list ≡ ahead ++ undone → o ≡ total size_of undone
      → Fine (plain (views k).codes.list)
      → (o < (shape k).span) × (o < (views k).prologue) × (room (plain undone) ≤ n)
      → Opened s e undone now
      → Stays e now
      → now.regs.pc ≡ 0x00401000 + o
      → Reaches s (inputs k) e o Prologue undone
  in-prologue o ahead undone now a q z f c d m i =
      reach o now Prologue undone a c.0 f m i
      (prologue (record { ahead = ahead; codes = q; offset = z; early = c.1; entered = record { opened = d; low = omega (arith, h.roomy.low, c.2) } }))

  -- a body that has done nothing but go to an address
  past :
      (left : State) (pc : ℕ) → (shape k).fragment ≡ false → room (plain (views k).codes.list) ≤ n → Opened s e (views k).codes.list left
      → (left.regs.sp % 4 ≡ 0) × (left.stack.base ≤ left.regs.sp)
      → E.Past s (shape k).fragment (views k).codes.list e (standing pc left)
  past left pc w c d g = record {
    left = left;
    begins = subst (λ q. E.Begins s q (views k).codes.list e left) (sym w) (record { opened = d; low = omega (arith, h.roomy.low, c) });
    keeps = idle (plain (views k).codes.list) left pc g.0 g.1;
  }

  in_body :
      (o : ℕ) (left : State) → Sees k s o → InNone o (views k).epilogues → Fine (plain (views k).codes.list) → (shape k).fragment ≡ false
      → (o < (shape k).span) × ((views k).prologue ≤ o) × (room (plain (views k).codes.list) ≤ n)
      → Opened s e (views k).codes.list left
      → Stays e left
      → (left.regs.sp % 4 ≡ 0) × (left.stack.base ≤ left.regs.sp)
      → Reaches s (inputs k) e o Body (views k).codes.list
  in_body o left a i f w c d m g =
      reach o (standing (0x00401000 + o) left) Body (views k).codes.list a c.0 f (record { base = m.base; long = m.long }) refl
      (body (record { late = c.1; outside = i; past = past left (0x00401000 + o) w c.2 d g }))

  -- behind the instructions of these codes of an epilogue
  in-epilogue :
      {sc : Scope} {ex : EpilogueOf Coded} (o : ℕ) (gone undone : List Coded) (start now : State) → Sees k s o
      → Of sc ex (shape k).scopes (views k).epilogues
      → Fit (own k) sc
      → ex.condition ≡ always
      → ex.codes.list ≡ gone ++ undone
      → o ≡ ex.start + total size_of gone
      → Fine (plain (views k).codes.list)
      → (o < (shape k).span) × (total size_of gone < ex.size)
      → E.Past s (shape k).fragment (views k).codes.list e start
      → Closed s (RX (plain (views k).codes.list)) ex.start gone start now
      → Stays e now
      → now.regs.pc ≡ 0x00401000 + o
      → Reaches s (inputs k) e o Epilogue undone
  in-epilogue {sc} {ex} o gone undone start now a of fit u q z f c p d m i =
      reach o now Epilogue undone a c.0 f m i
      (epilogue (record { scope = sc; read = ex; listed = of; fit = fit; unconditional = u; gone = gone; codes = q; offset = z; inside = c.1; start = start; past = p; closed = d }))

-- ---- the packed record of RULES 4.20: push {r4,r5,lr}; sub sp,#8; twelve nops; add sp,#8; pop {r4,r5,pc}
abbrev pub code : List ℕ
code = bytes_of (0xB082B530 ∷ replicate 6 0xBF00BF00 ++ (0xBD30B002 ∷ []))

abbrev pub up : Coded
up = record { code = up2; first = 0x02 }

abbrev pub pop : Coded
pop = record { code = pop45lr; first = 0xD5 }

abbrev one : Action → Instruction
one a = record { action = a; size = halfwords 1 }

at-0 : instruction_at code 0 ≡ one (Push (2 ^ 4 + 2 ^ 5 + 2 ^ 14))
unfolding opened
at-0 = refl

at-2 : instruction_at code 2 ≡ one (SubSp 8)
unfolding opened
at-2 = refl

at-1C : instruction_at code 0x1C ≡ one (AddSp 8)
unfolding opened
at-1C = refl

sees-2 : Sees Forward.plain code 2
unfolding opened
sees-2 = refl

sees-4 : Sees Forward.plain code 4
unfolding opened
sees-4 = refl

sees-1E : Sees Forward.plain code 0x1E
unfolding opened
sees-1E = refl

-- the prologue, executed
module _ (e : State) (h : Enters 20 e) where
  push : Lowered 12 (4 ∷ 5 ∷ 14 ∷ []) 2 e
  push = lower 12 (4 ∷ 5 ∷ 14 ∷ []) 2 e (omega arith) (omega (arith, h.roomy.low)) h.roomy.high (small h) (omega (arith, h.pc))

  sub : Lowered 8 [] 2 push.now
  sub =
      let p = push in
      lower 8 [] 2 push.now (omega arith) (omega (arith, h.roomy.low, p.sp, p.base)) (omega (arith, h.roomy.high, p.sp, p.base, p.long)) (omega (arith, small h, p.base, p.long))
      (omega (arith, h.pc, p.pc))

  pushed : Opened code e (pop ∷ []) push.now
  unfolding opened
  pushed = E.next pop E.none (subst (λ i. Executes i e push.now) (sym at-0) (record { does = push.stores; next = push.passes })) tt

  subbed : Opened code e (up ∷ pop ∷ []) sub.now
  unfolding opened
  subbed = E.next up pushed (subst (λ i. Executes i push.now sub.now) (sym at-2) (record { does = sub.stores; next = sub.passes })) tt

  same-push : Stays e push.now
  same-push = record { base = push.base; long = push.long }

  same-sub : Stays e sub.now
  same-sub = record { base = sub.base ∙ push.base; long = sub.long ∙ push.long }

  sp-sub : (sub.now.regs.sp % 4 ≡ 0) × (sub.now.stack.base ≤ sub.now.regs.sp)
  sp-sub = (omega (arith, h.roomy.aligned, sub.sp, push.sp), omega (arith, h.roomy.low, sub.sp, push.sp, sub.base, push.base))

  pub plain-2 : Reaches code (inputs Forward.plain) e 2 Prologue (pop ∷ [])
  unfolding opened
  plain-2 = in-prologue Forward.plain code e 20 h 2 (up ∷ []) (pop ∷ []) push.now sees-2 refl refl (tt, (tt, tt)) (omega arith) pushed same-push (omega (arith, h.pc, push.pc))

  pub plain-4 : Reaches code (inputs Forward.plain) e 4 Body (up ∷ pop ∷ [])
  unfolding opened
  plain-4 = in_body Forward.plain code e 20 h 4 sub.now sees-4 (inl (omega arith), tt) (tt, (tt, tt)) refl (omega arith) subbed same-sub sp-sub

  -- the body goes to the epilogue, and its first instruction is executed
  abbrev leaving : State
  leaving = standing 0x0040101C sub.now

  add : Raised 8 2 leaving
  add = raise 8 2 leaving (omega (arith, small h, h.roomy.high, sub.sp, push.sp)) (omega arith)

  added : Closed code (RX (plain (up ∷ pop ∷ []))) 0x1C (up ∷ []) leaving add.now
  added = E.next up (subst (λ i. Executes i leaving add.now) (sym at-1C) (record { does = add.loads; next = add.passes })) tt E.none

  same_add : Stays e add.now
  same_add = record { base = ap (λ (l : Lent). l.base) add.stack ∙ same-sub.base; long = ap (λ (l : Lent). length l.bytes) add.stack ∙ same-sub.long }

  pub plain-1E : Reaches code (inputs Forward.plain) e 0x1E Epilogue (pop ∷ [])
  unfolding opened
  plain-1E =
      in-epilogue Forward.plain code e 20 h 0x1E (up ∷ []) (pop ∷ []) leaving add.now sees-1E here (packed (λ q. omega arith) (λ d. refl)) refl refl refl (tt, (tt, tt)) (omega arith)
      (past Forward.plain code e 20 h sub.now 0x0040101C refl (omega arith) subbed sp-sub) added same_add (omega (arith, add.pc))

-- ---- a full record with C7 DD 04 FD: push {r0-r3}; push.w {r4-r9,lr}; mov r7,sp; nops; mov sp,r7; pop.w {r4-r9,lr}; add sp,#16; bx lr
abbrev pub framed_code : List ℕ
framed_code = bytes_of (0xE92DB40F ∷ 0x466F43F0 ∷ replicate 78 0xBF00BF00 ++ (0xE8BD46BD ∷ 0xB00443F0 ∷ 0x4770 ∷ []))

abbrev pub home : Coded
home = record { code = up4; first = 0x04 }

abbrev pub wide : Coded
wide = record { code = pop4to9lr; first = 0xDD }

abbrev pub sp_from : Coded
sp_from = record { code = sp_r7; first = 0xC7 }

framed-at-0 : instruction_at framed_code 0 ≡ one (Push (2 ^ 4 - 1))
unfolding opened
framed-at-0 = refl

framed-at-2 : instruction_at framed_code 2 ≡ record { action = Push (2 ^ 10 - 2 ^ 4 + 2 ^ 14); size = halfwords 2 }
unfolding opened
framed-at-2 = refl

framed-at-6 : instruction_at framed_code 6 ≡ one (Mov 7 13)
unfolding opened
framed-at-6 = refl

framed-sees-8 : Sees Forward.framed framed_code 8
unfolding opened
framed-sees-8 = refl

module _ (e : State) (h : Enters 44 e) where
  homed : Lowered 16 (0 ∷ 1 ∷ 2 ∷ 3 ∷ []) 2 e
  homed = lower 16 (0 ∷ 1 ∷ 2 ∷ 3 ∷ []) 2 e (omega arith) (omega (arith, h.roomy.low)) h.roomy.high (small h) (omega (arith, h.pc))

  saved : Lowered 28 (4 ∷ 5 ∷ 6 ∷ 7 ∷ 8 ∷ 9 ∷ 14 ∷ []) 4 homed.now
  saved =
      let p = homed in
      lower 28 (4 ∷ 5 ∷ 6 ∷ 7 ∷ 8 ∷ 9 ∷ 14 ∷ []) 4 homed.now (omega arith) (omega (arith, h.roomy.low, p.sp, p.base)) (omega (arith, h.roomy.high, p.sp, p.base, p.long))
      (omega (arith, small h, p.base, p.long))
      (omega (arith, h.pc, p.pc))

  copied : Copied 7 2 saved.now
  copied = copy 7 2 saved.now (omega arith) (λ q. omega arith) (omega (arith, h.pc, homed.pc, saved.pc))

  opened-2 : Opened framed_code e (home ∷ []) homed.now
  unfolding opened
  opened-2 = E.next home E.none (subst (λ i. Executes i e homed.now) (sym framed-at-0) (record { does = homed.stores; next = homed.passes })) tt

  opened-6 : Opened framed_code e (wide ∷ home ∷ []) saved.now
  unfolding opened
  opened-6 = E.next wide opened-2 (subst (λ i. Executes i homed.now saved.now) (sym framed-at-2) (record { does = saved.stores; next = saved.passes })) tt

  opened-8 : Opened framed_code e (sp_from ∷ wide ∷ home ∷ []) copied.now
  unfolding opened
  opened-8 = E.next sp_from opened-6 (subst (λ i. Executes i saved.now copied.now) (sym framed-at-6) (record { does = copied.moves; next = copied.passes })) tt

  same-copied : Stays e copied.now
  same-copied = record {
    base = ap (λ (l : Lent). l.base) copied.stack ∙ saved.base ∙ homed.base;
    long = ap (λ (l : Lent). length l.bytes) copied.stack ∙ saved.long ∙ homed.long;
  }

  sp-copied : (copied.now.regs.sp % 4 ≡ 0) × (copied.now.stack.base ≤ copied.now.regs.sp)
  sp-copied = (
    omega (arith, h.roomy.aligned, copied.sp, saved.sp, homed.sp),
    omega (arith, h.roomy.low, copied.sp, saved.sp, homed.sp, same-copied.base),
  )

  pub framed-8 : Reaches framed_code (inputs Forward.framed) e 8 Body (sp_from ∷ wide ∷ home ∷ [])
  unfolding opened
  framed-8 = in_body Forward.framed framed_code e 44 h 8 copied.now framed-sees-8 (inl (omega arith), tt) (rx7, (tt, (tt, tt))) refl (omega arith) opened-8 same-copied sp-copied
