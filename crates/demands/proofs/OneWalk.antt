-- The walk laws leave one walk to a reader's single frames; and the shams that they break.
-- Assumes nothing.
use Prim.Native.Nat.{ℕ, ◌≤◌, ◌<◌}
use mathlib.Core.Path.{◌≡◌, refl, sym, ap, ◌∙◌, subst}
use mathlib.Core.Logic.{◌≢◌}
use mathlib.Core.List.{List, [], ◌∷◌}
use lib.ListN.{length, get_or, take}
use lib.Seq.{get_or-take}
use native.Mathlib.Omega.{arith}
use Rattle.words.specs.Bits.{even}
use Rattle.words.specs.declared.Place.TheVariants.{Leaf, Body}
use Rattle.unwinding.specs.Singly as Singly
use Rattle.unwinding.specs.Singly.{Follows, reached}
use Rattle.unwinding.proofs.OneWalk as General
use Rattle.unwinding.proofs.OneWalk.{Same, one_answer}
use Rattle.machine.specs.declared.Regs.{Regs}
use Rattle.frame.specs.Frame.{Inputs}
use Rattle.walking.specs.Walk.{arm}
use Rattle.walking.specs.declared.Frame.{Frame}
use Rattle.walking.specs.declared.Stop.TheVariants as Stop
use Rattle.walking.specs.declared.WalkedAll.{WalkedAll}
use Rattle.listing.proofs.Opened.{opened}
use Rattle.demands.specs.Reader.{Reader, ours, alone, seen}
use Rattle.demands.specs.Demand1.{Demand1}
use Rattle.demands.specs.WalkLaws.{WalkLaws}
use Rattle.demands.specs.Shams.{summing, skipping, Copying}
use Rattle.demands.proofs.Examples as Example
use Rattle.demands.proofs.Walks.{walk-laws}

room-kept : (a : Reader) → WalkLaws a → (t : Inputs) (g : Regs) (l : List Frame) → (a.walk t g l).walked.frames ≤ length l
room-kept a h t g l = omega (arith, (h.less t g l l (omega arith)).frames)

same-walk : (a b : Reader) → WalkLaws a → WalkLaws b → a.unwind ≡ b.unwind → (t : Inputs) (g : Regs) (l : List Frame)
    → Same arm (λ h. alone (a.unwind t h)) (seen (a.walk t g l)) (seen (b.walk t g l))
same-walk a b h k e t g l =
    General.same-walk arm (λ h. alone (a.unwind t h)) g (length l) (seen (a.walk t g l)) (seen (b.walk t g l)) (h.follows t g l)
    (subst (λ v. Follows arm (λ h. alone (v t h)) g (length l) (seen (b.walk t g l))) (sym e) (k.follows t g l))
    (room-kept a h t g l)
    (room-kept b k t g l)

abbrev blank : Frame
blank = record { pc = 0; sp = 0; place = Leaf }

abbrev back : Singly.WalkedAll arm → WalkedAll
back w = record { walked = record { stop = w.walked.stop; frames = w.walked.frames; codes = w.walked.codes }; list = w.list }

-- any two readers that meet these laws and demand 1 and answer each frame alike give one walk, with its whole list
pub one-walk : (a b : Reader) → WalkLaws a → WalkLaws b → Demand1 a → Demand1 b → a.unwind ≡ b.unwind
    → (t : Inputs) (g : Regs) (l : List Frame) → a.walk t g l ≡ b.walk t g l
one-walk a b h k d f e t g l =
    ap back
    (one_answer arm (λ h. alone (a.unwind t h)) blank l (seen (a.walk t g l)) (seen (b.walk t g l)) (same-walk a b h k e t g l) (d.untouched t g l) (f.untouched t g l))

-- ---- a sum of codes that is not the frames'
no-summing : (sum : Inputs → Regs → List Frame → ℕ) (t : Inputs) (g : Regs) (l : List Frame) → sum t g l ≢ (ours.walk t g l).walked.codes
    → WalkLaws (summing sum) → ⊥
no-summing sum t g l n h = n ((h.follows t g l).codes ∙ sym (walk-laws.follows t g l).codes)

-- ---- the same frame again, by a reader that answers single frames as ours does
abbrev lent : List Frame
lent = blank ∷ blank ∷ []

two-frames : (ours.walk Example.inputs Example.given lent).walked.frames ≡ 2
unfolding opened
two-frames = refl

caller-pc : (ours.unwind Example.inputs Example.given).regs.pc ≡ 0x00402010
unfolding opened
caller-pc = refl

no-copying : (a : Reader) → WalkLaws a → a.unwind ≡ ours.unwind → Copying a → ⊥
unfolding reached
no-copying a h e c =
    let w : WalkedAll = a.walk Example.inputs Example.given lent in
    let n : 1 < w.walked.frames = omega (arith, ap (λ v. v.frames) (same-walk a ours h walk-laws e Example.inputs Example.given lent).walked, two-frames) in
    let shown = (h.follows Example.inputs Example.given lent).shown in
    let pc : (a.unwind Example.inputs Example.given).regs.pc ≡ 0x00402010 = ap (λ u. (u Example.inputs Example.given).regs.pc) e ∙ caller-pc in
    let z : even (a.unwind Example.inputs Example.given).regs.pc ≡ 0x00401002
    = ap (λ f. f.pc) (sym (shown 1 blank n) ∙ c Example.inputs Example.given lent blank 1 n ∙ shown 0 blank (omega arith)) in
    let y : ◌≡◌ {A = ℕ} 0x00402010 0x00401002 = rw pc at z in omega arith

-- ---- another frame where there is less room
abbrev caller : WalkedAll
caller = record { walked = record { stop = Stop.End; frames = 1; codes = 1 }; list = record { pc = 0x00402010; sp = 0x20014; place = Body } ∷ [] }

skipped : skipping.walk Example.inputs Example.given (blank ∷ []) ≡ caller
unfolding opened
skipped = refl

not-skipped : (get_or (skipping.walk Example.inputs Example.given lent).list 0 blank).pc ≡ 0x00401002
unfolding opened
not-skipped = refl

no-skipping : WalkLaws skipping → ⊥
no-skipping h =
    let whole : List Frame = (skipping.walk Example.inputs Example.given lent).list in
    let q : take 1 caller.list ≡ take 1 whole
    = subst (λ w. take w.walked.frames w.list ≡ take w.walked.frames whole) skipped (h.less Example.inputs Example.given (blank ∷ []) lent (omega arith)).list in
    let z : ◌≡◌ {A = ℕ} 0x00402010 0x00401002 = ap (λ (s : List Frame). (get_or s 0 blank).pc) q ∙ ap (λ f. f.pc) (get_or-take 1 whole 0 blank (omega arith)) ∙ not-skipped in
    omega arith
