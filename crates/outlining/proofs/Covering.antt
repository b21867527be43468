-- The record whose regions are printed under a frame is the one that covers it: the frame was unwound by the record found for its pc, and is a
-- leaf only where nothing was found or the function found ends before the pc. A listed pc has its bit 0 cleared, and finds the same.
-- Assumes nothing.
use Rattle.std.specs.Prelude.{if◌then◌else◌, Option, None, Some, Ok}
use Prim.Native.Nat.{ℕ}
use mathlib.Core.Path.{◌≡◌, refl, sym, ap, ◌∙◌}
use mathlib.Core.Logic.{◌≢◌}
use mathlib.Core.List.{List}
use mathlib.Core.Bool.{Bool, true, false, ◌&&◌}
use lib.Dec.{ltb}
use borrow.Author.Tests.{ltb-true, ltb-false}
use native.Mathlib.Omega.{arith}
use Rattle.words.specs.Bits.{even}
use Rattle.words.specs.declared.Place.{Place}
use Rattle.words.specs.declared.Place.TheVariants.{Leaf, Prologue, Body, Epilogue}
use Rattle.words.specs.declared.Refusal.TheVariants.{UnfitInput, BadStack}
use Rattle.words.specs.Answer.{maybe}
use Rattle.words.proofs.Answers.{bind_ok, need-ok, ok_same}
use Rattle.unwinding.specs.Shape.{Shape}
use Rattle.unwinding.specs.Trail.{Trail}
use Rattle.unwinding.proofs.All.{All}
use Rattle.unwinding.proofs.Thirteen.{next-was}
use Rattle.unwinding.proofs.Walks.{Walks, no_room, refused, last, more, walks}
use Rattle.machine.specs.declared.Regs.{Regs}
use Rattle.machine.specs.Step.{stands}
use Rattle.pdata.specs.declared.Entry.{Entry}
use Rattle.pdata.specs.Pdata.{find}
use Rattle.xdata.specs.Xdata.{fit_xdata}
use Rattle.record.specs.Record.{shape_of}
use Rattle.frame.specs.Frame.{Inputs, Caller, fit_stack, leaf_of, uncovered, within, by_record, frame_of}
use Rattle.walking.specs.Walk.{arm, frames, walk}
use Rattle.outlining.specs.Outlined.{regions_by, regions_found, regions_at}
use Rattle.outlining.specs.Covered.{offset_in, Covers, Regioned, covered, bare}
use Rattle.frame.proofs.Inner.{inner-within}

-- ---- a pc and the same without its bit 0
even-even : (p : ℕ) → even (even p) ≡ even p
even-even p = omega arith

pub find-even : (i : ℕ) (s : List ℕ) (p : ℕ) → find i s (even p) ≡ find i s p
unfolding find
find-even i s p = rw (even-even p) refl

module _ {t : Inputs} {pc : ℕ} {e : Entry} where
  to-even : Covers t pc e → Covers t (even pc) e
  to-even k = record { found = find-even t.image t.pdata pc ∙ k.found; shape = k.shape; read = k.read; inside = rw (even-even pc) k.inside }

  from-even : Covers t (even pc) e → Covers t pc e
  from-even k = record { found = sym (find-even t.image t.pdata pc) ∙ k.found; shape = k.shape; read = k.read; inside = rw (even-even pc) at k.inside }

-- ---- what a frame that was unwound rests on
pub data Rests (t : Inputs) (g : Regs) (c : Caller) : Type 0 where
  on : (e : Entry) → Covers t g.pc e → c.place ≢ Leaf → Rests t g c
  nothing : ((e : Entry) → Covers t g.pc e → ⊥) → c.place ≡ Leaf → Rests t g c

uncovered-leaf : (first : Bool) (g : Regs) (c : Caller) → uncovered first g ≡ Ok c → c.place ≡ Leaf
uncovered-leaf true g c q = ap (λ z. z.place) (sym (ok_same (leaf_of g) c q))
uncovered-leaf false g c q = absurd (let z : ◌≡◌ {A = ℕ} 0 1 = cc in omega arith)

-- a record found, of a function that ends before the pc
module _ (t : Inputs) (pc : ℕ) (e : Entry) (s : Shape) (f : find t.image t.pdata pc ≡ Ok (Some e)) (r : shape_of t.xdata e ≡ Ok s) where
  beyond : ltb (offset_in t pc e) s.span ≡ false → (d : Entry) → Covers t pc d → ⊥
  beyond l d k =
      let same : d ≡ e = cc (f, k.found) in
      let shapes : k.shape ≡ s = ok_same k.shape s (sym k.read ∙ ap (shape_of t.xdata) same ∙ r) in
      omega (arith, k.inside, ap (λ z. z.start) same, ap (λ z. z.span) shapes, ltb-false (offset_in t pc e) s.span l)

module _ (first : Bool) (t : Inputs) (g : Regs) (c : Caller) where
  by-record : (e : Entry) → find t.image t.pdata g.pc ≡ Ok (Some e) → by_record first t e g ≡ Ok c → Rests t g c
  unfolding by_record
  by-record e f q = let a = bind_ok (shape_of t.xdata e) _ c q in go a.0 a.1 (ltb (offset_in t g.pc e) a.0.span) refl a.2
    where
      go :
          (s : Shape) → shape_of t.xdata e ≡ Ok s → (b : Bool) → ltb (offset_in t g.pc e) s.span ≡ b
          → (if b then within t.stack s (offset_in t g.pc e) g else uncovered first g) ≡ Ok c
          → Rests t g c
      go s r true l w =
          on e (record { found = f; shape = s; read = r; inside = ltb-true _ _ l }) (inner-within t.stack s (offset_in t g.pc e) g c w)
      go s r false l w = nothing (beyond t g.pc e s f r l) (uncovered-leaf first g c w)

  pub rests : frame_of first t g ≡ Ok c → Rests t g c
  unfolding frame_of
  rests h =
      let a = need-ok (fit_stack t.stack && fit_xdata t.xdata) UnfitInput _ c h in
      let b = bind_ok (find t.image t.pdata g.pc) _ c a.1 in
      let d = need-ok (stands t.stack g.sp) BadStack _ c b.2 in
      go b.0 b.1 d.1
    where
      go :
          (e : Option Entry) → find t.image t.pdata g.pc ≡ Ok e → maybe e (uncovered first g) (λ e. by_record first t e g) ≡ Ok c
          → Rests t g c
      go None f q = nothing (λ e k. let z : ◌≡◌ {A = ℕ} 0 1 = cc (f, k.found) in omega arith) (uncovered-leaf first g c q)
      go (Some e) f q = by-record e f q

-- ---- a frame's regions
found-regions :
    (t : Inputs) (pc : ℕ) (e : Entry) (p : Place) → p ≢ Leaf → find t.image t.pdata pc ≡ Ok (Some e)
    → regions_at t pc p ≡ regions_by t e
found-regions t pc e Leaf n f = absurd (n refl)
found-regions t pc e Prologue n f = ap (regions_found t) f
found-regions t pc e Body n f = ap (regions_found t) f
found-regions t pc e Epilogue n f = ap (regions_found t) f

pub frame-regioned : (first : Bool) (t : Inputs) (g : Regs) (c : Caller) → frame_of first t g ≡ Ok c → Regioned t (arm.listed_as g c.place)
frame-regioned first t g c h = go (rests first t g c h)
  where
    go : Rests t g c → Regioned t (arm.listed_as g c.place)
    go (on e k n) = let q = to-even k in covered e q n (found-regions t (even g.pc) e c.place n q.found)
    go (nothing k n) = bare (λ e q. k e (from-even q)) n (ap (regions_at t (even g.pc)) n)

-- ---- all frames of a walk
each : (t : Inputs) {room : ℕ} {first : Bool} {g : Regs} {w : Trail arm} → Walks arm (frames t) room first g w → All (Regioned t) w.frames
each t no_room = tt
each t (refused r e) = tt
each t (last {first = first} {g = g} c e z) = (frame-regioned first t g c (next-was arm (frames t) first g c e).0, tt)
each t (more {first = first} {g = g} c e z below) = (frame-regioned first t g c (next-was arm (frames t) first g c e).0, each t below)

pub walk-regioned : (t : Inputs) (room : ℕ) (g : Regs) → All (Regioned t) (walk t room g).frames
walk-regioned t room g = each t (walks arm (frames t) room true g)
