-- Demand 3 for one frame's whole answer on lent tables and stack.
-- Assumes nothing.
use Rattle.std.specs.Prelude.{if◌then◌else◌, Ok, Some}
use Prim.Native.Nat.{ℕ, ◌-◌, ◌%◌, ◌^◌, ◌≤◌, ◌<◌}
use mathlib.Core.Path.{◌≡◌, refl, sym, ap, ap₂, ◌∙◌, subst}
use mathlib.Core.Bool.{Bool, true, false, ◌&&◌}
use mathlib.Core.List.{List, [], ◌∷◌}
use mathlib.Core.Logic.{◌≢◌}
use lib.Dec.{leb, eqb}
use lib.ListN.{length}
use native.Mathlib.Omega.{arith}
use borrow.Author.Tests.{eqb-false, eq-eqb, ne_eqb, leb-true, le-leb, lt-ltb}
use Rattle.words.specs.Bits.{bits, even}
use Rattle.lent.specs.Lent.{Lent, end}
use Rattle.words.specs.Units.{code_bytes, halfword_bytes}
use Rattle.words.specs.declared.CodeBytes.{CodeBytes}
use Rattle.words.specs.declared.Refusal.TheVariants.{Reserved}
use Rattle.words.specs.Answer.{Res, ◌>>=◌, ◌>>◌, need}
use Rattle.unwinding.specs.CodeList.{Codes}
use Rattle.unwinding.specs.Shape.{Shape}
use Rattle.unwinding.specs.View.{EpilogueOf, View}
use Rattle.unwinding.specs.declared.Scope.{Scope}
use Rattle.codes.specs.Code.{size, codes_at}
use Rattle.codes.specs.declared.Code.{Code}
use Rattle.machine.specs.Step.{stands}
use Rattle.machine.specs.declared.Regs.{Regs}
use Rattle.pdata.specs.Pdata.{find}
use Rattle.packed.specs.Packed.{fields, allowed, PF, EF}
use Rattle.packed_codes.specs.PackedCodes.{written, write_codes}
use Rattle.record.specs.Record.{last_scope, packed_shape, shape_of}
use Rattle.xdata.specs.Xdata.{fit_xdata}
use Rattle.pdata.specs.declared.Entry.{Entry}
use Rattle.packed.specs.declared.Packed.{Packed}
use Rattle.packed.proofs.Words.{fields_fit_lem}
use Rattle.packed_codes.specs.Lists.{prologue_codes, epilogue_codes}
use Rattle.packed_codes.proofs.Decoding.{holds}
use Rattle.frame.specs.Frame.{Inputs, Caller, fit_stack, within, by_record, frame_of, frame, unwound}
use Rattle.frame.specs.declared.Unwound.{Unwound}
use Rattle.forward.specs.State.{State, Outside}
use Rattle.unwinding.specs.Listed.{Of, here, later}
use Rattle.forward.specs.Epilogues.{SavesD, Fit, full, packed}
use Rattle.forward.specs.Stop.{codes_of}
use Rattle.forward.specs.Demand.{lending, Asked, Finds, Demand3}
use Rattle.forward.proofs.Back.{Near}
use Rattle.words.proofs.Tests.{both}
use Rattle.unwinding.proofs.Viewed.{Viewed, viewed, read_of}
use Rattle.forward.proofs.Ready.{Second, ready}
use Rattle.forward.proofs.Within.{finds-in}
use Rattle.forward.proofs.PackedSecond.{packed-second}

-- ---- the second list of a full record is its first
same-list : (s : Shape) (v : View Code) (sc : Scope) (ex : EpilogueOf Code) → Viewed size codes_at s v → Of sc ex s.scopes v.epilogues → sc.index ≡ code_bytes 0 → Second (codes_of v) ex.codes.list
same-list s v sc ex w m h =
    let x = read_of size codes_at s w.epilogues m in
    let e : Ok v.codes ≡ Ok ex.codes = sym w.codes ∙ ap (codes_at s.codes) (sym h) ∙ x.codes in
    let l : codes_of v ≡ ex.codes.list = ap (λ (c : Codes Code). c.list) (let z : v.codes ≡ ex.codes = cc in z) in
    subst (Second (codes_of v)) l (record { inv = λ base e b m v. v; r_x = λ x q. q })

-- ---- of a packed one, both are those of its word
record IsPacked (w : ℕ) (s : Shape) : Type 0 where
  allowed : allowed (fields w) ≡ true
  codes : s.codes ≡ (written (fields w)).bytes
  scopes : s.scopes ≡ (if eqb (fields w).ret 3 then [] else last_scope (written (fields w)).first ∷ [])

abbrev shape_for : ℕ → Shape
shape_for w =
    let p : Packed = fields w in
    record { span = halfword_bytes p.length; codes = (written p).bytes; fragment = eqb p.flag 2; scopes = if eqb p.ret 3 then [] else last_scope (written p).first ∷ []; handler = 0 }

is-packed : (w : ℕ) (s : Shape) → packed_shape w ≡ Ok s → IsPacked w s
unfolding packed_shape write_codes
is-packed w s h = go (allowed (fields w)) refl h
  where
    go :
        (t : Bool) → allowed (fields w) ≡ t
        → ((need t Reserved >> Ok (written (fields w)))
        >>= λ c. Ok (record { span = halfword_bytes (fields w).length; codes = c.bytes; fragment = eqb (fields w).flag 2; scopes = if eqb (fields w).ret 3 then [] else last_scope c.first ∷ []; handler = 0 }))
        ≡ Ok s
        → IsPacked w s
    go true e q =
        let z : shape_for w ≡ s = cc in
        record { allowed = e; codes = ap (λ (x : Shape). x.codes) (sym z); scopes = ap (λ (x : Shape). x.scopes) (sym z) }
    go false e q = absurd (let z : ◌≡◌ {A = ℕ} 0 1 = cc in omega arith)

-- the only scope
only :
    {sc : Scope} {ex : EpilogueOf Code} {scs : List Scope} {exs : List (EpilogueOf Code)} (ret : ℕ) (i : CodeBytes) → Of sc ex scs exs
    → scs ≡ (if eqb ret 3 then [] else last_scope i ∷ [])
    → (ret ≢ 3) × (sc.index ≡ i)
only ret i m h = go (eqb ret 3) refl m h
  where
    go :
        {sc : Scope} {ex : EpilogueOf Code} {scs : List Scope} {exs : List (EpilogueOf Code)} (t : Bool) → eqb ret 3 ≡ t → Of sc ex scs exs
        → scs ≡ (if t then [] else last_scope i ∷ [])
        → (ret ≢ 3) × (sc.index ≡ i)
    go true e here q = absurd (let z : ◌≡◌ {A = ℕ} 0 1 = cc in omega arith)
    go true e (later m) q = absurd (let z : ◌≡◌ {A = ℕ} 0 1 = cc in omega arith)
    go {sc} false e (here {scs = scs}) q = (eqb-false ret 3 e, ap (λ (x : Scope). x.index) (let z : sc ≡ last_scope i = cc in z))
    go false e (later {a = a} {scs = scs} m) q = absurd (empty m (let z : scs ≡ [] = cc in z))
      where
        empty : {sc : Scope} {ex : EpilogueOf Code} {scs : List Scope} {exs : List (EpilogueOf Code)} → Of sc ex scs exs → scs ≡ [] → ⊥
        empty here q = let z : ◌≡◌ {A = ℕ} 0 1 = cc in omega arith
        empty (later m) q = let z : ◌≡◌ {A = ℕ} 0 1 = cc in omega arith

packed-list :
    (w : ℕ) (s : Shape) (v : View Code) (sc : Scope) (ex : EpilogueOf Code) → packed_shape w ≡ Ok s → Viewed size codes_at s v → Of sc ex s.scopes v.epilogues
    → (SavesD (fields w) → PF (fields w) ≡ EF (fields w))
    → Second (codes_of v) ex.codes.list
packed-list w s v sc ex h y m d =
    let p : Packed = fields w in
    let i = is-packed w s h in
    let hs = holds p (fields_fit_lem w) in
    let o = only p.ret (written p).first m i.scopes in
    let x = read_of size codes_at s y.epilogues m in
    let a : v.codes ≡ prologue_codes p = given (sym y.codes ∙ ap (λ l. codes_at l (code_bytes 0)) i.codes ∙ hs.first.read) in
    let b : ex.codes ≡ epilogue_codes p = given (sym x.codes ∙ ap₂ codes_at i.codes o.1 ∙ (hs.second o.0).read) in
    rw (a, b) (packed-second p (fields_fit_lem w) i.allowed d)
  where
    given : {c d : Codes Code} → ◌≡◌ {A = Res (Codes Code)} (Ok c) (Ok d) → c ≡ d
    given h = cc

-- ---- by the record's kind
pub fit-second :
    (t : Lent) (r : Entry) (s : Shape) (v : View Code) → shape_of t r ≡ Ok s → Viewed size codes_at s v → (sc : Scope) (ex : EpilogueOf Code) → Of sc ex s.scopes v.epilogues → Fit r sc
    → Second (codes_of v) ex.codes.list
fit-second t r s v h y sc ex m (full z i) = same-list s v sc ex y m i
fit-second t r s v h y sc ex m (packed z d) = packed-list r.word s v sc ex (rw (ne_eqb (bits 0 2 r.word) 0 z) at h) y m d

-- ---- the frame
-- a stack of the same base and length passes 1 as well
pub fit-like : (k k' : Lent) → k'.base ≡ k.base → length k'.bytes ≡ length k.bytes → fit_stack k' ≡ fit_stack k
fit-like k k' p q = rw (p, q) refl

pub stack-end : (k : Lent) → fit_stack k ≡ true → end k < 2 ^ 32
stack-end k h =
    let a = both (eqb (k.base % 4) 0 && eqb (length k.bytes % 4) 0) (leb (end k) (2 ^ 32 - 4)) h in
    omega (arith, leb-true (end k) (2 ^ 32 - 4) a.1)

-- the given SP stands
stands-like : (k k' : Lent) (top a : ℕ) → k'.base ≡ k.base → length k'.bytes ≡ length k.bytes → top ≤ end k → end k < 2 ^ 32 → Near k.base top a → stands k' a ≡ true
stands-like k k' top a p q h m n =
    let l : k'.base ≤ a = omega (arith, n.low) in
    let u : a ≤ end k' = omega (arith, n.high) in
    let r : a < 2 ^ 32 = omega (arith, n.high) in
    rw (eq-eqb (a % 4) 0 n.even, le-leb _ _ l, le-leb _ _ u, lt-ltb _ _ r) refl

-- a frame whose tests pass is its record's answer
pub passed :
    (t : Inputs) (k : Lent) (g : Regs) (e : Entry) (s : Shape) (o : ℕ) (c : Caller) → fit_stack k ≡ true → fit_xdata t.xdata ≡ true
    → find t.image t.pdata g.pc ≡ Ok (Some e)
    → stands k g.sp ≡ true
    → shape_of t.xdata e ≡ Ok s
    → o ≡ even g.pc - t.image - e.start
    → o < s.span
    → within k s o g ≡ Ok c
    → frame (lending t k) g ≡ Ok c
unfolding frame_of by_record
passed t k g e s o c a b f n h p q w = rw (a, b, f, n, h, ← p, lt-ltb o s.span q) w

-- one frame's whole answer
abbrev pub answer : Inputs → Regs → Unwound
answer t g = unwound g (frame t g)

framed : (t : Inputs) (entry now : State) (a : Asked t entry now) → Finds answer t entry now a.place a.shape.handler a.undone
framed t entry now a =
    let fit = both (fit_stack t.stack) (fit_xdata t.xdata) a.passes1 in
    let y = viewed size codes_at a.shape a.view a.passes6-7 in
    let top : entry.regs.sp ≤ end now.stack = subst (λ (k : Lent). entry.regs.sp ≤ end k) (sym a.stack) a.lent in
    let m : end now.stack < 2 ^ 32 = subst (λ (k : Lent). end k < 2 ^ 32) (sym a.stack) (stack-end t.stack fit.0) in
    let r = ready a.own a.shape a.view entry y a.aligned (fit-second t.xdata a.own a.shape a.view a.passes4-5 y) top a.stopped in
    let f = finds-in a.shape a.view entry a.offset now a.place a.undone a.passes6-7 a.aligned top m r in
    record {
      caller = unwound now.regs (Ok f.caller);
      found = λ k o.
          let o' : Outside entry.regs.sp (end now.stack) now.stack k = subst (λ (x : Lent). Outside entry.regs.sp (end x) x k) (sym a.stack) o in
          ap (unwound now.regs)
          (passed t k now.regs a.own a.shape a.offset f.caller (fit-like t.stack k o.base o.long ∙ fit.0) fit.1 a.found
          (stands-like now.stack k entry.regs.sp now.regs.sp o'.base o'.long top m f.near)
          a.passes4-5
          a.here
          a.covers
          (f.given k o'));
      answer = f.answer;
    }

pub demand3 : Demand3 answer
unfolding Demand3
demand3 t entry now a = framed t entry now a
