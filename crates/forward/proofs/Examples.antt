-- The conditions of demand 3 can be met: for each kind of record a function that was entered with any registers and comes to stand
-- in its prologue, its body and its epilogue.
-- Assumes nothing.
use Rattle.std.specs.Prelude.{Ok, Option, Some}
use Prim.Native.Nat.{ℕ, ◌+◌, ◌-◌, ◌^◌, ◌≤◌, ◌<◌}
use mathlib.Core.Path.{◌≡◌, refl, sym, ap, subst}
use mathlib.Core.List.{List, [], ◌∷◌, ◌++◌, append-nil}
use mathlib.Core.Bool.{Bool, true, false}
use mathlib.Core.Logic.{inl, inr}
use lib.ListN.{replicate}
use native.Mathlib.Omega.{arith}
use Rattle.words.specs.Bits.{even}
use Rattle.lent.specs.Lent.{lent}
use Rattle.lent.proofs.Bytes.{bytes_of}
use Rattle.words.specs.Units.{halfwords, stack_words}
use Rattle.words.specs.declared.Place.TheVariants.{Prologue, Body, Epilogue}
use Rattle.words.specs.Answer.{Res, or_else}
use Rattle.unwinding.specs.Shape.{Shape}
use Rattle.unwinding.specs.CodeList.{total}
use Rattle.unwinding.specs.View.{EpilogueOf, View, view}
use Rattle.unwinding.specs.declared.Scope.{Scope}
use Rattle.codes.specs.Code.{size, codes_at}
use Rattle.codes.specs.Condition.{always}
use Rattle.codes.specs.declared.Code.{Code}
use Rattle.codes.specs.declared.Undo.{Undo}
use Rattle.codes.specs.declared.Undo.TheVariants.{Up, Pop, SpFrom, Vpop, LoadLr, Nothing}
use Rattle.pdata.specs.Pdata.{find}
use Rattle.xdata.specs.Xdata.{fit_xdata}
use Rattle.record.specs.Record.{shape_of}
use Rattle.pdata.specs.declared.Entry.{Entry}
use Rattle.frame.specs.Frame.{Inputs}
use Rattle.frame.proofs.Opened.{opened}
use Rattle.machine.specs.declared.Regs.{Regs}
use Rattle.forward.specs.Saving.{RX}
use Rattle.forward.specs.State.{Whole, State}
use Rattle.forward.specs.Prologue.{Done, none}
use Rattle.forward.specs.Epilogue.{Ran}
use Rattle.unwinding.specs.Listed.{Of, here, later, InNone}
use Rattle.forward.specs.Epilogues.{Fit, full, packed}
use Rattle.forward.specs.Stop.{codes_of, Past}
use Rattle.forward.specs.Met.{FineRX, Fine, room, Plain, Reaches, At, Roomy, Went, Met}
use Rattle.forward.specs.Met as Meeting
use Rattle.forward.proofs.Executing.{done-went, after, runs}
use Rattle.forward.proofs.Reaching.{less-room, met}

-- ---- tables with one record, of a function at 0x1000
-- word 1 of the .pdata record, and the words of the .xdata at 0x3000
pub record Tables : Type 0 where
  pub word : ℕ
  pub xdata : List ℕ

abbrev pub inputs : Tables → Inputs
inputs k = record { image = 0x00400000; pdata = bytes_of (0x1000 ∷ k.word ∷ []); xdata = lent 0x3000 (bytes_of k.xdata); stack = lent 0 [] }

abbrev pub own : Tables → Entry
own k = record { number = 0; start = 0x1000; word = k.word }

abbrev pub shape : Tables → Shape
shape k = or_else (shape_of (inputs k).xdata (own k)) (record { span = 0; codes = []; fragment = false; scopes = []; handler = 0 })

abbrev pub views : Tables → View Code
views k = or_else (view size codes_at (shape k)) (record { codes = record { list = []; end_size = 0 }; prologue = 0; epilogues = [] })

-- what the frame's tests come to at an offset: they pass, and this is the record
abbrev pub looks : Tables → ℕ → Bool × Res (Option Entry) × Res Shape × Res (View Code) × ℕ
looks k o =
    let t : Inputs = inputs k in
    let pc : ℕ = 0x00401000 + o in
    (fit_xdata t.xdata, find t.image t.pdata pc, shape_of t.xdata (own k), view size codes_at (shape k), even pc - t.image - (own k).start)

abbrev pub Looks : Tables → ℕ → Type 0
Looks k o = looks k o ≡ (true, Ok (Some (own k)), Ok (shape k), Ok (views k), o)

abbrev pub Near : Tables → ℕ → Type 0
Near k o = (o < (shape k).span) × (0x00401000 + o < 2 ^ 32)

pub known : (k : Tables) (o : ℕ) → Looks k o → Near k o → At (inputs k) (own k) (shape k) (views k) (0x00401000 + o) o
known k o e n = record {
  passes1 = ap (λ x. x.0) e;
  found = ap (λ x. x.1) e;
  passes4-5 = ap (λ x. x.2) e;
  passes6-7 = ap (λ x. x.3) e;
  here = sym (ap (λ x. x.4) e);
  covers = n.0;
  small = n.1;
}

-- an entry: any registers but pc and SP, and any stack with 1,024 bytes below SP
pub record Entered (e : State) : Type 0 where
  pub roomy : Roomy e 1024
  pub pc : e.regs.pc ≡ 0x00401000

-- such an entry, from any registers: SP at 0x20400 in a stack of 1,280 bytes
unfoldable pub entry : (g : Regs) → Whole g → State
entry g w =
    record { regs = record { r = g.r; sp = 0x20400; lr = g.lr; pc = 0x00401000; d = g.d }; stack = lent 0x20000 (replicate 0x500 0); whole = record { r = w.r; d = w.d } }

pub entered : (g : Regs) (w : Whole g) → Entered (entry g w)
unfolding entry
entered g w = record { roomy = record { fit = refl; aligned = refl; high = omega arith; low = omega arith }; pc = refl }

module _ (k : Tables) (e : State) (h : Entered e) where
  abbrev Here : (pc o : ℕ) → Type 0
  Here pc o = At (inputs k) (own k) (shape k) (views k) pc o

  abbrev all : Met (inputs k) (own k) (shape k) (views k) e
  all = met (inputs k) (own k) (shape k) (views k) e

  from-entry : (o : ℕ) → Looks k o → Near k o → Here (e.regs.pc + o) o
  from-entry o a n = subst (λ pc. Here (pc + o) o) (sym h.pc) (known k o a n)

  pub in-prologue :
      (ahead done : List Code) → Looks k (total size done) → codes_of (views k) ≡ ahead ++ done → Fine done
      → Near k (total size done) × (total size done < (views k).prologue) × (room done ≤ 1024)
      → Reaches (inputs k) e (total size done) Prologue done
  in-prologue ahead done a q f n =
      (all.onward e ahead done done [] (from-entry (total size done) a n.0) q (sym (append-nil done)) n.1 f (less-room n.2 h.roomy) none (λ w. w)).0

  pub in_body :
      (o : ℕ) → Looks k o → InNone o (views k).epilogues → Fine (codes_of (views k)) → Near k o × ((views k).prologue ≤ o) × (room (codes_of (views k)) ≤ 1024)
      → Reaches (inputs k) e o Body (codes_of (views k))
  in_body o a i f n = all.everywhere o Body (codes_of (views k)) (Meeting.body n.1 i) (from-entry o a n.0) f (less-room n.2 h.roomy)

  pub in-epilogue :
      {sc : Scope} {ex : EpilogueOf Code} (done todo : List Code) → Looks k (ex.start + total size done) → Of sc ex (shape k).scopes (views k).epilogues
      → Fit (own k) sc
      → ex.condition ≡ always
      → ex.codes.list ≡ done ++ todo
      → Fine (codes_of (views k))
      → Near k (ex.start + total size done) × (total size done < ex.size) × (room (codes_of (views k)) ≤ 1024)
      → Reaches (inputs k) e (ex.start + total size done) Epilogue todo
  in-epilogue {ex = ex} done todo a o fit c q f n =
      all.everywhere (ex.start + total size done) Epilogue todo (Meeting.epilogue done todo o fit c q n.1) (from-entry (ex.start + total size done) a n.0) f
      (less-room n.2 h.roomy)

  -- in a state of the prologue's own
  pub in-onward :
      (mid : State) (ahead more done : List Code) → Looks k (total size (more ++ done)) → codes_of (views k) ≡ ahead ++ (more ++ done) → Fine (more ++ done)
      → Near k (total size (more ++ done)) × (total size (more ++ done) < (views k).prologue) × (room (more ++ done) ≤ 1024)
      → Done e done mid
      → mid.regs.pc + total size more ≡ 0x00401000 + total size (more ++ done)
      → (Plain e → Plain mid)
      → (r : Reaches (inputs k) e (total size (more ++ done)) Prologue (more ++ done)) × Went done mid more r.now
  in-onward mid ahead more done a q f n d z w =
      all.onward mid ahead (more ++ done) more done
      (subst (λ pc. Here pc (total size (more ++ done))) (sym z) (known k (total size (more ++ done)) a n.0)) q refl n.1 f (less-room n.2 h.roomy) d w

  -- in a state of the body's own
  pub in-used :
      (o : ℕ) (now : State) → Looks k o → InNone o (views k).epilogues → Near k o × ((views k).prologue ≤ o) → Past (codes_of (views k)) e now
      → now.regs.pc ≡ 0x00401000 + o
      → (Plain e → Plain now)
      → (r : Reaches (inputs k) e o Body (codes_of (views k))) × (r.now ≡ now)
  in-used o now a i n p q w =
      all.used o now (subst (λ pc. Here pc o) (sym q) (known k o a n.0)) n.1 i (less-room (omega arith) h.roomy) p w

  -- in an epilogue, from states of the body's and the epilogue's own
  pub in-leaving :
      {sc : Scope} {ex : EpilogueOf Code} (start mid : State) (gone more undone : List Code) → Looks k (ex.start + total size (gone ++ more))
      → Of sc ex (shape k).scopes (views k).epilogues
      → Fit (own k) sc
      → ex.condition ≡ always
      → ex.codes.list ≡ (gone ++ more) ++ undone
      → Near k (ex.start + total size (gone ++ more)) × (total size (gone ++ more) < ex.size)
      → Past (codes_of (views k)) e start
      → Ran (RX (codes_of (views k))) gone start mid
      → mid.regs.pc + total size more ≡ 0x00401000 + (ex.start + total size (gone ++ more))
      → (Plain e → Plain mid)
      → (r : Reaches (inputs k) e (ex.start + total size (gone ++ more)) Epilogue undone) × Ran (RX (codes_of (views k))) more mid r.now
  in-leaving {sc} {ex} start mid gone more undone a o fit c q n p m z w =
      let at : ℕ = ex.start + total size (gone ++ more) in
      all.leaving sc ex start mid gone more undone (subst (λ pc. Here pc at) (sym z) (known k at a n.0)) o fit c q n.1 (less-room (omega arith) h.roomy) p m w

  -- the whole prologue, as it runs from the entry
  pub prologue-run : (cs : List Code) → Fine cs → room cs ≤ 1024 → Done e cs (after cs e)
  prologue-run cs f n =
      let q = append-nil cs in
      subst (λ l. Done e l (after cs e)) q (done-went none (runs [] e cs (subst Fine (sym q) f) (omega (arith, h.roomy.low)) h.roomy.high).went)

abbrev pub code : Undo → ℕ → Code
code u n = record { undo = u; size = halfwords n }

-- ---- the codes
abbrev pub up1 : Code
up1 = code (Up (stack_words 1)) 1

abbrev pub up2 : Code
up2 = code (Up (stack_words 2)) 1

abbrev pub up4 : Code
up4 = code (Up (stack_words 4)) 1

abbrev pub up128 : Code
up128 = code (Up (stack_words 128)) 2

abbrev pub nop : Code
nop = code Nothing 2

abbrev pub nop1 : Code
nop1 = code Nothing 1

abbrev pub pop45 : Code
pop45 = code (Pop (2 ^ 4 + 2 ^ 5)) 1

-- a pop of LR has 32 bits (RULES 4.12)
abbrev pub pop45lr_wide : Code
pop45lr_wide = code (Pop (2 ^ 4 + 2 ^ 5 + 2 ^ 14)) 2

abbrev pub pop45lr : Code
pop45lr = code (Pop (2 ^ 4 + 2 ^ 5 + 2 ^ 14)) 1

abbrev pub pop345lr : Code
pop345lr = code (Pop (2 ^ 3 + 2 ^ 4 + 2 ^ 5 + 2 ^ 14)) 1

abbrev pub pop4511lr : Code
pop4511lr = code (Pop (2 ^ 4 + 2 ^ 5 + 2 ^ 11 + 2 ^ 14)) 2

abbrev pub pop11lr : Code
pop11lr = code (Pop (2 ^ 11 + 2 ^ 14)) 2

abbrev pub pop3lr : Code
pop3lr = code (Pop (2 ^ 3 + 2 ^ 14)) 1

abbrev pub pop4to9lr : Code
pop4to9lr = code (Pop (2 ^ 10 - 2 ^ 4 + 2 ^ 14)) 2

abbrev pub vpop89 : Code
vpop89 = code (Vpop 8 9) 2

abbrev pub lr5 : Code
lr5 = code (LoadLr (stack_words 5)) 2

abbrev pub lr2 : Code
lr2 = code (LoadLr (stack_words 2)) 2

abbrev pub sp_r7 : Code
sp_r7 = code (SpFrom 7) 1

-- ---- push {r4,r5,lr}; sub sp,#8, and add; pop {r4,r5,pc}
abbrev pub plain : Tables
plain = record { word = 0x00910041; xdata = [] }

pub plain-0 : (e : State) → Entered e → Reaches (inputs plain) e 0 Prologue []
unfolding opened
plain-0 e h = in-prologue plain e h (up2 ∷ pop45lr ∷ []) [] refl refl tt (omega arith)

pub plain-2 : (e : State) → Entered e → Reaches (inputs plain) e 2 Prologue (pop45lr ∷ [])
unfolding opened
plain-2 e h = in-prologue plain e h (up2 ∷ []) (pop45lr ∷ []) refl refl (tt, tt) (omega arith)

pub plain-4 : (e : State) → Entered e → Reaches (inputs plain) e 0x4 Body (up2 ∷ pop45lr ∷ [])
unfolding opened
plain-4 e h = in_body plain e h 0x4 refl (inl (omega arith), tt) (tt, (tt, tt)) (omega arith)

pub plain-1C : (e : State) → Entered e → Reaches (inputs plain) e 0x1C Epilogue (up2 ∷ pop45lr ∷ [])
unfolding opened
plain-1C e h = in-epilogue plain e h [] (up2 ∷ pop45lr ∷ []) refl here (packed (λ q. omega arith) (λ d. refl)) refl refl (tt, (tt, tt)) (omega arith)

pub plain-1E : (e : State) → Entered e → Reaches (inputs plain) e 0x1E Epilogue (pop45lr ∷ [])
unfolding opened
plain-1E e h = in-epilogue plain e h (up2 ∷ []) (pop45lr ∷ []) refl here (packed (λ q. omega arith) (λ d. refl)) refl refl (tt, (tt, tt)) (omega arith)

-- ---- H: push {r0-r3} first, and LR loaded with the home words at the end
abbrev pub homes : Tables
homes = record { word = 0x00918041; xdata = [] }

pub homes-2 : (e : State) → Entered e → Reaches (inputs homes) e 2 Prologue (up4 ∷ [])
unfolding opened
homes-2 e h = in-prologue homes e h (up2 ∷ pop45lr ∷ []) (up4 ∷ []) refl refl (tt, tt) (omega arith)

pub homes-4 : (e : State) → Entered e → Reaches (inputs homes) e 4 Prologue (pop45lr ∷ up4 ∷ [])
unfolding opened
homes-4 e h = in-prologue homes e h (up2 ∷ []) (pop45lr ∷ up4 ∷ []) refl refl (tt, (tt, tt)) (omega arith)

pub homes-6 : (e : State) → Entered e → Reaches (inputs homes) e 0x6 Body (up2 ∷ pop45lr ∷ up4 ∷ [])
unfolding opened
homes-6 e h = in_body homes e h 0x6 refl (inl (omega arith), tt) (tt, (tt, (tt, tt))) (omega arith)

pub homes-1A : (e : State) → Entered e → Reaches (inputs homes) e 0x1A Epilogue (pop45 ∷ lr5 ∷ [])
unfolding opened
homes-1A e h = in-epilogue homes e h (up2 ∷ []) (pop45 ∷ lr5 ∷ []) refl here (packed (λ q. omega arith) (λ d. refl)) refl refl (tt, (tt, (tt, tt))) (omega arith)

pub homes-1C : (e : State) → Entered e → Reaches (inputs homes) e 0x1C Epilogue (lr5 ∷ [])
unfolding opened
homes-1C e h = in-epilogue homes e h (up2 ∷ pop45 ∷ []) (lr5 ∷ []) refl here (packed (λ q. omega arith) (λ d. refl)) refl refl (tt, (tt, (tt, tt))) (omega arith)

-- ---- C: r11 is saved with LR, and the nop stands for the instruction that sets it
abbrev pub chain : Tables
chain = record { word = 0x00B10041; xdata = [] }

pub chain-4 : (e : State) → Entered e → Reaches (inputs chain) e 4 Prologue (pop4511lr ∷ [])
unfolding opened
chain-4 e h = in-prologue chain e h (up2 ∷ nop ∷ []) (pop4511lr ∷ []) refl refl (tt, tt) (omega arith)

pub chain-8 : (e : State) → Entered e → Reaches (inputs chain) e 8 Prologue (nop ∷ pop4511lr ∷ [])
unfolding opened
chain-8 e h = in-prologue chain e h (up2 ∷ []) (nop ∷ pop4511lr ∷ []) refl refl (tt, (tt, tt)) (omega arith)

pub chain-A : (e : State) → Entered e → Reaches (inputs chain) e 0xA Body (up2 ∷ nop ∷ pop4511lr ∷ [])
unfolding opened
chain-A e h = in_body chain e h 0xA refl (inl (omega arith), tt) (tt, (tt, (tt, tt))) (omega arith)

pub chain-1C : (e : State) → Entered e → Reaches (inputs chain) e 0x1C Epilogue (pop4511lr ∷ [])
unfolding opened
chain-1C e h = in-epilogue chain e h (up2 ∷ []) (pop4511lr ∷ []) refl here (packed (λ q. omega arith) (λ d. refl)) refl refl (tt, (tt, (tt, tt))) (omega arith)

-- ---- C with nothing else pushed: mov r11,sp, of 16 bits (RULES 4.21)
abbrev pub alone : Tables
alone = record { word = 0x00BF0041; xdata = [] }

pub alone-4 : (e : State) → Entered e → Reaches (inputs alone) e 4 Prologue (pop11lr ∷ [])
unfolding opened
alone-4 e h = in-prologue alone e h (up2 ∷ nop1 ∷ []) (pop11lr ∷ []) refl refl (tt, tt) (omega arith)

pub alone-6 : (e : State) → Entered e → Reaches (inputs alone) e 6 Prologue (nop1 ∷ pop11lr ∷ [])
unfolding opened
alone-6 e h = in-prologue alone e h (up2 ∷ []) (nop1 ∷ pop11lr ∷ []) refl refl (tt, (tt, tt)) (omega arith)

pub alone-8 : (e : State) → Entered e → Reaches (inputs alone) e 0x8 Body (up2 ∷ nop1 ∷ pop11lr ∷ [])
unfolding opened
alone-8 e h = in_body alone e h 0x8 refl (inl (omega arith), tt) (tt, (tt, (tt, tt))) (omega arith)

pub alone-1C : (e : State) → Entered e → Reaches (inputs alone) e 0x1C Epilogue (pop11lr ∷ [])
unfolding opened
alone-1C e h = in-epilogue alone e h (up2 ∷ []) (pop11lr ∷ []) refl here (packed (λ q. omega arith) (λ d. refl)) refl refl (tt, (tt, (tt, tt))) (omega arith)

-- ---- no L: LR is not saved, and bx lr ends the epilogue
abbrev pub leaf : Tables
leaf = record { word = 0x00812041; xdata = [] }

pub leaf-2 : (e : State) → Entered e → Reaches (inputs leaf) e 2 Prologue (pop45 ∷ [])
unfolding opened
leaf-2 e h = in-prologue leaf e h (up2 ∷ []) (pop45 ∷ []) refl refl (tt, tt) (omega arith)

pub leaf-4 : (e : State) → Entered e → Reaches (inputs leaf) e 0x4 Body (up2 ∷ pop45 ∷ [])
unfolding opened
leaf-4 e h = in_body leaf e h 0x4 refl (inl (omega arith), tt) (tt, (tt, tt)) (omega arith)

pub leaf-1C : (e : State) → Entered e → Reaches (inputs leaf) e 0x1C Epilogue (pop45 ∷ [])
unfolding opened
leaf-1C e h = in-epilogue leaf e h (up2 ∷ []) (pop45 ∷ []) refl here (packed (λ q. omega arith) (λ d. refl)) refl refl (tt, (tt, tt)) (omega arith)

pub leaf-1E : (e : State) → Entered e → Reaches (inputs leaf) e 0x1E Epilogue []
unfolding opened
leaf-1E e h = in-epilogue leaf e h (up2 ∷ pop45 ∷ []) [] refl here (packed (λ q. omega arith) (λ d. refl)) refl refl (tt, (tt, tt)) (omega arith)

-- ---- PF alone: the word is pushed with r3, and an add takes it back
abbrev pub pushed : Tables
pushed = record { word = 0xFD110041; xdata = [] }

pub pushed-2 : (e : State) → Entered e → Reaches (inputs pushed) e 0x2 Body (pop345lr ∷ [])
unfolding opened
pushed-2 e h = in_body pushed e h 0x2 refl (inl (omega arith), tt) (tt, tt) (omega arith)

pub pushed-1C : (e : State) → Entered e → Reaches (inputs pushed) e 0x1C Epilogue (up1 ∷ pop45lr ∷ [])
unfolding opened
pushed-1C e h = in-epilogue pushed e h [] (up1 ∷ pop45lr ∷ []) refl here (packed (λ q. omega arith) (λ d. absurd (let z : ◌≡◌ {A = ℕ} 0 1 = d.0 in omega arith))) refl refl (tt, tt) (omega arith)

pub pushed-1E : (e : State) → Entered e → Reaches (inputs pushed) e 0x1E Epilogue (pop45lr ∷ [])
unfolding opened
pushed-1E e h = in-epilogue pushed e h (up1 ∷ []) (pop45lr ∷ []) refl here (packed (λ q. omega arith) (λ d. absurd (let z : ◌≡◌ {A = ℕ} 0 1 = d.0 in omega arith))) refl refl (tt, tt) (omega arith)

-- ---- EF alone: the word is gained by a sub, and popped with r3
abbrev pub popped : Tables
popped = record { word = 0xFE110041; xdata = [] }

pub popped-2 : (e : State) → Entered e → Reaches (inputs popped) e 2 Prologue (pop45lr ∷ [])
unfolding opened
popped-2 e h = in-prologue popped e h (up1 ∷ []) (pop45lr ∷ []) refl refl (tt, tt) (omega arith)

pub popped-4 : (e : State) → Entered e → Reaches (inputs popped) e 0x4 Body (up1 ∷ pop45lr ∷ [])
unfolding opened
popped-4 e h = in_body popped e h 0x4 refl (inl (omega arith), tt) (tt, (tt, tt)) (omega arith)

pub popped-1E : (e : State) → Entered e → Reaches (inputs popped) e 0x1E Epilogue (pop345lr ∷ [])
unfolding opened
popped-1E e h = in-epilogue popped e h [] (pop345lr ∷ []) refl here (packed (λ q. omega arith) (λ d. absurd (let z : ◌≡◌ {A = ℕ} 0 1 = d.0 in omega arith))) refl refl (tt, (tt, tt)) (omega arith)

-- ---- d registers, with PF = EF
abbrev pub vector : Tables
vector = record { word = 0xFF190041; xdata = [] }

pub vector-2 : (e : State) → Entered e → Reaches (inputs vector) e 2 Prologue (pop3lr ∷ [])
unfolding opened
vector-2 e h = in-prologue vector e h (vpop89 ∷ []) (pop3lr ∷ []) refl refl (tt, tt) (omega arith)

pub vector-6 : (e : State) → Entered e → Reaches (inputs vector) e 0x6 Body (vpop89 ∷ pop3lr ∷ [])
unfolding opened
vector-6 e h = in_body vector e h 0x6 refl (inl (omega arith), tt) (tt, (tt, tt)) (omega arith)

pub vector-1A : (e : State) → Entered e → Reaches (inputs vector) e 0x1A Epilogue (vpop89 ∷ pop3lr ∷ [])
unfolding opened
vector-1A e h = in-epilogue vector e h [] (vpop89 ∷ pop3lr ∷ []) refl here (packed (λ q. omega arith) (λ d. refl)) refl refl (tt, (tt, tt)) (omega arith)

pub vector-1E : (e : State) → Entered e → Reaches (inputs vector) e 0x1E Epilogue (pop3lr ∷ [])
unfolding opened
vector-1E e h = in-epilogue vector e h (vpop89 ∷ []) (pop3lr ∷ []) refl here (packed (λ q. omega arith) (λ d. refl)) refl refl (tt, (tt, tt)) (omega arith)

-- ---- Flag 2: a fragment starts in its body
abbrev pub part : Tables
part = record { word = 0x00910042; xdata = [] }

pub part-0 : (e : State) → Entered e → Reaches (inputs part) e 0x0 Body (up2 ∷ pop45lr ∷ [])
unfolding opened
part-0 e h = in_body part e h 0x0 refl (inl (omega arith), tt) (tt, (tt, tt)) (omega arith)

pub part-1E : (e : State) → Entered e → Reaches (inputs part) e 0x1E Epilogue (pop45lr ∷ [])
unfolding opened
part-1E e h = in-epilogue part e h (up2 ∷ []) (pop45lr ∷ []) refl here (packed (λ q. omega arith) (λ d. refl)) refl refl (tt, (tt, tt)) (omega arith)

-- r7 is saved before it takes SP
pub rx7 : FineRX (pop4to9lr ∷ up4 ∷ []) 7
rx7 = record { named = omega arith; other = λ q. omega arith; once = λ y q. no y q; saved = λ l. inl (inr (inr (inr (inl refl)))) }
  where
    no : (y : ℕ) → RX (pop4to9lr ∷ up4 ∷ []) y → ⊥
    no y (inl q) = q
    no y (inr (inl q)) = q
    no y (inr (inr q)) = q

-- ---- E=1, rX = SP: mov r7,sp after push {r4-r9,lr} and push {r0-r3}; the body may move SP
abbrev pub framed : Tables
framed = record { word = 0x00003000; xdata = (0x102000A5 ∷ 0xFD04DDC7 ∷ []) }

pub framed-2 : (e : State) → Entered e → Reaches (inputs framed) e 2 Prologue (up4 ∷ [])
unfolding opened
framed-2 e h = in-prologue framed e h (sp_r7 ∷ pop4to9lr ∷ []) (up4 ∷ []) refl refl (tt, tt) (omega arith)

pub framed-6 : (e : State) → Entered e → Reaches (inputs framed) e 6 Prologue (pop4to9lr ∷ up4 ∷ [])
unfolding opened
framed-6 e h = in-prologue framed e h (sp_r7 ∷ []) (pop4to9lr ∷ up4 ∷ []) refl refl (tt, (tt, tt)) (omega arith)

pub framed-8 : (e : State) → Entered e → Reaches (inputs framed) e 0x8 Body (sp_r7 ∷ pop4to9lr ∷ up4 ∷ [])
unfolding opened
framed-8 e h = in_body framed e h 0x8 refl (inl (omega arith), tt) (rx7, (tt, (tt, tt))) (omega arith)

pub framed-142 : (e : State) → Entered e → Reaches (inputs framed) e 0x142 Epilogue (pop4to9lr ∷ up4 ∷ [])
unfolding opened
framed-142 e h = in-epilogue framed e h (sp_r7 ∷ []) (pop4to9lr ∷ up4 ∷ []) refl here (full refl refl) refl refl (rx7, (tt, (tt, tt))) (omega arith)

pub framed-148 : (e : State) → Entered e → Reaches (inputs framed) e 0x148 Epilogue []
unfolding opened
framed-148 e h = in-epilogue framed e h (sp_r7 ∷ pop4to9lr ∷ up4 ∷ []) [] refl here (full refl refl) refl refl (rx7, (tt, (tt, tt))) (omega arith)

-- ---- E=0: a scope with condition always and index 0
abbrev pub scoped : Tables
scoped = record { word = 0x00003000; xdata = (0x10800010 ∷ 0x00E0000A ∷ 0xFFFDD502 ∷ []) }

pub scoped-2 : (e : State) → Entered e → Reaches (inputs scoped) e 2 Prologue (pop45lr ∷ [])
unfolding opened
scoped-2 e h = in-prologue scoped e h (up2 ∷ []) (pop45lr ∷ []) refl refl (tt, tt) (omega arith)

pub scoped-4 : (e : State) → Entered e → Reaches (inputs scoped) e 0x4 Body (up2 ∷ pop45lr ∷ [])
unfolding opened
scoped-4 e h = in_body scoped e h 0x4 refl (inl (omega arith), tt) (tt, (tt, tt)) (omega arith)

pub scoped-16 : (e : State) → Entered e → Reaches (inputs scoped) e 0x16 Epilogue (pop45lr ∷ [])
unfolding opened
scoped-16 e h = in-epilogue scoped e h (up2 ∷ []) (pop45lr ∷ []) refl here (full refl refl) refl refl (tt, (tt, tt)) (omega arith)

pub scoped-18 : (e : State) → Entered e → Reaches (inputs scoped) e 0x18 Epilogue []
unfolding opened
scoped-18 e h = in-epilogue scoped e h (up2 ∷ pop45lr ∷ []) [] refl here (full refl refl) refl refl (tt, (tt, tt)) (omega arith)

-- ---- F=1: a fragment of a full record
abbrev pub tail : Tables
tail = record { word = 0x00003000; xdata = (0x10C00010 ∷ 0x00E0000A ∷ 0xFFFDD502 ∷ []) }

pub tail-0 : (e : State) → Entered e → Reaches (inputs tail) e 0x0 Body (up2 ∷ pop45lr ∷ [])
unfolding opened
tail-0 e h = in_body tail e h 0x0 refl (inl (omega arith), tt) (tt, (tt, tt)) (omega arith)

pub tail-14 : (e : State) → Entered e → Reaches (inputs tail) e 0x14 Epilogue (up2 ∷ pop45lr ∷ [])
unfolding opened
tail-14 e h = in-epilogue tail e h [] (up2 ∷ pop45lr ∷ []) refl here (full refl refl) refl refl (tt, (tt, tt)) (omega arith)

-- ---- two scopes, the first with condition EQ: between them, and in the second
abbrev pub either : Tables
either = record { word = 0x00003000; xdata = (0x11000010 ∷ 0x00000006 ∷ 0x00E0000A ∷ 0xFFFDD502 ∷ []) }

pub either-12 : (e : State) → Entered e → Reaches (inputs either) e 0x12 Body (up2 ∷ pop45lr ∷ [])
unfolding opened
either-12 e h = in_body either e h 0x12 refl (inr (omega arith), (inl (omega arith), tt)) (tt, (tt, tt)) (omega arith)

pub either-16 : (e : State) → Entered e → Reaches (inputs either) e 0x16 Epilogue (pop45lr ∷ [])
unfolding opened
either-16 e h = in-epilogue either e h (up2 ∷ []) (pop45lr ∷ []) refl (later here) (full refl refl) refl refl (tt, (tt, tt)) (omega arith)

-- ---- EF 02: str lr,[sp,#-8]!; sub sp,#8
abbrev pub stores : Tables
stores = record { word = 0x00003000; xdata = (0x10200010 ∷ 0xFD02EF02 ∷ []) }

pub stores-4 : (e : State) → Entered e → Reaches (inputs stores) e 0x4 Prologue (lr2 ∷ [])
unfolding opened
stores-4 e h = in-prologue stores e h (up2 ∷ []) (lr2 ∷ []) refl refl (omega arith, tt) (omega arith)

pub stores-6 : (e : State) → Entered e → Reaches (inputs stores) e 0x6 Body (up2 ∷ lr2 ∷ [])
unfolding opened
stores-6 e h = in_body stores e h 0x6 refl (inl (omega arith), tt) (tt, (omega arith, tt)) (omega arith)

pub stores-1A : (e : State) → Entered e → Reaches (inputs stores) e 0x1A Epilogue (lr2 ∷ [])
unfolding opened
stores-1A e h = in-epilogue stores e h (up2 ∷ []) (lr2 ∷ []) refl here (full refl refl) refl refl (tt, (omega arith, tt)) (omega arith)

pub stores-1E : (e : State) → Entered e → Reaches (inputs stores) e 0x1E Epilogue []
unfolding opened
stores-1E e h = in-epilogue stores e h (up2 ∷ lr2 ∷ []) [] refl here (full refl refl) refl refl (tt, (omega arith, tt)) (omega arith)

-- ---- X=1: a handler
abbrev pub handles : Tables
handles = record { word = 0x00003000; xdata = (0x10300010 ∷ 0xFFFDD502 ∷ 0x00005678 ∷ []) }

pub handles-4 : (e : State) → Entered e → Reaches (inputs handles) e 0x4 Body (up2 ∷ pop45lr ∷ [])
unfolding opened
handles-4 e h = in_body handles e h 0x4 refl (inl (omega arith), tt) (tt, (tt, tt)) (omega arith)

-- ---- Ret 2: LR is popped as itself, and b.w ends the epilogue
abbrev pub branch : Tables
branch = record { word = 0x00914041; xdata = [] }

pub branch-2 : (e : State) → Entered e → Reaches (inputs branch) e 0x2 Prologue (pop45lr ∷ [])
unfolding opened
branch-2 e h = in-prologue branch e h (up2 ∷ []) (pop45lr ∷ []) refl refl (tt, tt) (omega arith)

pub branch-4 : (e : State) → Entered e → Reaches (inputs branch) e 0x4 Body (up2 ∷ pop45lr ∷ [])
unfolding opened
branch-4 e h = in_body branch e h 0x4 refl (inl (omega arith), tt) (tt, (tt, tt)) (omega arith)

pub branch-18 : (e : State) → Entered e → Reaches (inputs branch) e 0x18 Epilogue (pop45lr_wide ∷ [])
unfolding opened
branch-18 e h = in-epilogue branch e h (up2 ∷ []) (pop45lr_wide ∷ []) refl here (packed (λ q. omega arith) (λ d. refl)) refl refl (tt, (tt, tt)) (omega arith)

pub branch-1C : (e : State) → Entered e → Reaches (inputs branch) e 0x1C Epilogue []
unfolding opened
branch-1C e h = in-epilogue branch e h (up2 ∷ pop45lr_wide ∷ []) [] refl here (packed (λ q. omega arith) (λ d. refl)) refl refl (tt, (tt, tt)) (omega arith)

-- ---- Ret 3: no epilogue
abbrev pub never : Tables
never = record { word = 0x00916041; xdata = [] }

pub never-2 : (e : State) → Entered e → Reaches (inputs never) e 0x2 Prologue (pop45lr ∷ [])
unfolding opened
never-2 e h = in-prologue never e h (up2 ∷ []) (pop45lr ∷ []) refl refl (tt, tt) (omega arith)

pub never-1E : (e : State) → Entered e → Reaches (inputs never) e 0x1E Body (up2 ∷ pop45lr ∷ [])
unfolding opened
never-1E e h = in_body never e h 0x1E refl tt (tt, (tt, tt)) (omega arith)

-- ---- H without L: the home words are taken back by an add
abbrev pub home_leaf : Tables
home_leaf = record { word = 0x0081A041; xdata = [] }

pub home_leaf-4 : (e : State) → Entered e → Reaches (inputs home_leaf) e 0x4 Prologue (pop45 ∷ up4 ∷ [])
unfolding opened
home_leaf-4 e h = in-prologue home_leaf e h (up2 ∷ []) (pop45 ∷ up4 ∷ []) refl refl (tt, (tt, tt)) (omega arith)

pub home_leaf-6 : (e : State) → Entered e → Reaches (inputs home_leaf) e 0x6 Body (up2 ∷ pop45 ∷ up4 ∷ [])
unfolding opened
home_leaf-6 e h = in_body home_leaf e h 0x6 refl (inl (omega arith), tt) (tt, (tt, (tt, tt))) (omega arith)

pub home_leaf-1C : (e : State) → Entered e → Reaches (inputs home_leaf) e 0x1C Epilogue (up4 ∷ [])
unfolding opened
home_leaf-1C e h = in-epilogue home_leaf e h (up2 ∷ pop45 ∷ []) (up4 ∷ []) refl here (packed (λ q. omega arith) (λ d. refl)) refl refl (tt, (tt, (tt, tt))) (omega arith)

-- ---- 128 words: sub and add of 32 bits
abbrev pub big : Tables
big = record { word = 0x20110041; xdata = [] }

pub big-2 : (e : State) → Entered e → Reaches (inputs big) e 0x2 Prologue (pop45lr ∷ [])
unfolding opened
big-2 e h = in-prologue big e h (up128 ∷ []) (pop45lr ∷ []) refl refl (tt, tt) (omega arith)

pub big-6 : (e : State) → Entered e → Reaches (inputs big) e 0x6 Body (up128 ∷ pop45lr ∷ [])
unfolding opened
big-6 e h = in_body big e h 0x6 refl (inl (omega arith), tt) (tt, (tt, tt)) (omega arith)

pub big-1E : (e : State) → Entered e → Reaches (inputs big) e 0x1E Epilogue (pop45lr ∷ [])
unfolding opened
big-1E e h = in-epilogue big e h (up128 ∷ []) (pop45lr ∷ []) refl here (packed (λ q. omega arith) (λ d. refl)) refl refl (tt, (tt, tt)) (omega arith)
