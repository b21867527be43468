-- Each sham of RULES 10.23 breaks the demand that is named there for it.
-- Assumes nothing.
use Rattle.std.specs.Prelude.{Ok, Err, is_ok, Bool, true, false, eqb, if◌then◌else◌}
use Prim.Native.Nat.{ℕ, ◌<◌}
use mathlib.Core.Path.{◌≡◌, refl, sym, ap, ◌∙◌, subst}
use mathlib.Core.Logic.{◌≢◌}
use mathlib.Core.List.{List, [], ◌∷◌}
use lib.ListN.{get_or, replicate}
use native.Mathlib.Omega.{arith}
use borrow.Author.Tests.{eqb-true}
use Rattle.words.specs.declared.Place.TheVariants.{Leaf, Prologue, Body}
use Rattle.words.specs.declared.Refusal.{Refusal}
use Rattle.words.specs.Answer.{Res}
use Rattle.words.proofs.Answers.{ok_same}
use Rattle.machine.specs.Registers.{reg}
use Rattle.machine.specs.declared.Regs.{Regs}
use Rattle.frame.specs.Frame.{Inputs, unwound, told_of, frame, leaf_of}
use Rattle.frame.specs.declared.Told.{Told}
use Rattle.frame.specs.declared.Unwound.{Unwound}
use Rattle.walking.specs.Walk.{walk, walked_all}
use Rattle.walking.specs.declared.Frame.{Frame}
use Rattle.walking.specs.declared.Stop.TheVariants.{End}
use Rattle.walking.specs.declared.WalkedAll.{WalkedAll}
use Rattle.listing.proofs.Opened.{opened}
use Rattle.forward.specs.State.{Whole}
use Rattle.forward.specs.Demand.{Demand3}
use Rattle.forward.proofs.Memory.{outside-same}
use Rattle.forward.proofs.Examples as Run
use Rattle.demands.specs.Reader.{Reader, ours}
use Rattle.demands.specs.Demand2.{Demand2}
use Rattle.demands.specs.Shams.{refusing, fixed, as-leaf, told_with, inventing, Copying}
use Rattle.demands.proofs.Examples as Example

-- ---- demand 3: a function entered with this r4 and stopped, as crate forward executes it
abbrev entered : (r4 : ℕ) → Regs
entered r4 = record { r = 0 ∷ 0 ∷ 0 ∷ 0 ∷ r4 ∷ replicate 8 0; sp = 0; lr = 0; pc = 0; d = replicate 32 0 }

whole : (r4 : ℕ) → Whole (entered r4)
whole r4 = record { r = refl; d = refl }

-- what a reader that meets demand 3 answers there, and that it has the r4 of the entry
record Answered (unwind : Inputs → Regs → Unwound) (r4 : ℕ) : Type 0 where
  inputs : Inputs
  regs : Regs
  given : is_ok (unwind inputs regs).told ≡ true
  kept : reg (unwind inputs regs).regs 4 ≡ r4

answered : (unwind : Inputs → Regs → Unwound) → Demand3 unwind → (r4 : ℕ) → Answered unwind r4
unfolding Demand3 Run.entry
answered unwind h r4 =
    let e = Run.entry (entered r4) (whole r4) in
    let r = Run.plain-2 e (Run.entered (entered r4) (whole r4)) in
    let f = h _ e r.now r.asked in
    let k = r.now.stack in
    let q = f.found k (outside-same _ _ k) in
    record {
      inputs = _;
      regs = _;
      given = ap (λ (u : Unwound). is_ok u.told) q ∙ ap is_ok f.answer.told;
      kept = ap (λ (u : Unwound). reg u.regs 4) q ∙ f.answer.r 4 (omega arith) (omega arith);
    }

-- always refusing
no-refusing : (r : Inputs → Regs → Refusal) → Demand3 (refusing r).unwind → ⊥
no-refusing r h =
    let a = answered (refusing r).unwind h 0 in
    let q : false ≡ true = a.given in
    let z : ◌≡◌ {A = ℕ} 0 1 = cc in omega arith

-- always the same caller, by two entries
no-fixed : (u : Unwound) → Demand3 (fixed u).unwind → ⊥
no-fixed u h =
    let z : ◌≡◌ {A = ℕ} 0 1 = sym (answered (fixed u).unwind h 0).kept ∙ (answered (fixed u).unwind h 1).kept in omega arith

-- ---- demand 2
-- an answer like a leaf's, at offset 4 of RULES 5.11: there two codes run, and the caller's SP is another
offset-4 : frame Example.inputs (Example.regs 0x00401004 0x20000) ≡ Ok (record { regs = record { r = 0 ∷ 0 ∷ 0 ∷ 0 ∷ 0x44 ∷ 0x55 ∷ replicate 7 0; sp = 0x20014; lr = 0x00402011; pc = 0x00402010; d = replicate 32 0 }; place = Body; handler = 0; codes = 2 })
unfolding opened
offset-4 = refl

no-leaf : Demand2 as-leaf → ⊥
no-leaf h =
    let g = Example.regs 0x00401004 0x20000 in
    let q : unwound g (Ok (leaf_of g)) ≡ unwound g (frame Example.inputs g) = h.caller Example.inputs g in
    let z : ◌≡◌ {A = ℕ} 0x20000 0x20014 = ap (λ (u : Unwound). u.regs.sp) (q ∙ ap (unwound g) offset-4) in omega arith

-- a walk that repeats its first frame, by RULES 8.13
abbrev blank : Frame
blank = record { pc = 0; sp = 0; place = Leaf }

abbrev lent : List Frame
lent = blank ∷ blank ∷ []

abbrev two : WalkedAll
two =
    record { walked = record { stop = End; frames = 2; codes = 2 }; list = record { pc = 0x00401002; sp = 0x20008; place = Prologue } ∷ record { pc = 0x00402010; sp = 0x20014; place = Body } ∷ [] }

two-frames : walked_all lent (walk Example.inputs 2 Example.given) ≡ two
unfolding opened
two-frames = refl

no-copying : (a : Reader) → Demand2 a → Copying a → ⊥
no-copying a h c =
    let q : a.walk Example.inputs Example.given lent ≡ two = h.callers Example.inputs Example.given lent ∙ two-frames in
    let same : (w : WalkedAll) → Type 0 = λ w. (1 < w.walked.frames → get_or w.list 1 blank ≡ get_or w.list 0 blank) in
    let z : ◌≡◌ {A = ℕ} 0x00402010 0x00401002 = ap (λ (f : Frame). f.pc) (subst same q (c Example.inputs Example.given lent blank 1) (omega arith)) in
    omega arith

-- a made-up count of codes (RULES 3.16): one that differs at any frame
counted : (n : ℕ) (g : Regs) (x : Res Told) → told_with n x ≡ x → n ≡ (told_of (record { regs = g; told = x })).codes
counted n g (Ok y) e =
    let made : Told = record { place = y.place; handler = y.handler; codes = n } in
    let z : made ≡ y = ok_same made y e in
    ap (λ (u : Told). u.codes) z
counted n g (Err r) e = go (eqb n 0) refl e
  where
    made : Told
    made = record { place = Leaf; handler = 0; codes = n }

    go : (b : Bool) → eqb n 0 ≡ b → ◌≡◌ {A = Res Told} (if b then Err r else Ok made) (Err r) → n ≡ 0
    go true q f = eqb-true n 0 q
    go false q f = absurd (let z : ◌≡◌ {A = ℕ} 0 1 = cc in omega arith)

no-inventing : (count : Inputs → Regs → ℕ) (t : Inputs) (g : Regs) → count t g ≢ (told_of (ours.unwind t g)).codes → Demand2 (inventing count) → ⊥
no-inventing count t g n h = n (counted (count t g) (ours.unwind t g).regs (ours.unwind t g).told (ap (λ (u : Unwound). u.told) (h.caller t g)))
