-- A frame after the first beside the frame by itself: one that nothing covers is refused with 12 (RULES 7.6); else both answers are one.
-- Assumes nothing.
use Rattle.std.specs.Prelude.{if◌then◌else◌, Ok, Err, Option, None, Some}
use Prim.Native.Nat.{◌-◌}
use mathlib.Core.Path.{◌≡◌, refl}
use mathlib.Core.Logic.{◌≢◌}
use mathlib.Core.Bool.{Bool, true, false, ◌&&◌}
use lib.Dec.{ltb}
use Rattle.words.specs.Bits.{even}
use Rattle.words.specs.declared.Place.TheVariants.{Leaf}
use Rattle.words.specs.declared.Refusal.{Refusal}
use Rattle.words.specs.declared.Refusal.TheVariants.{UnfitInput, BadStack}
use Rattle.words.specs.Answer.{Res, ◌>>=◌, ◌>>◌, need, maybe}
use Rattle.unwinding.specs.Shape.{Shape}
use Rattle.unwinding.proofs.Singly.{Later, refusal, covered, leaf}
use Rattle.machine.specs.declared.Regs.{Regs}
use Rattle.machine.specs.Step.{stands}
use Rattle.pdata.specs.declared.Entry.{Entry}
use Rattle.pdata.specs.Pdata.{find}
use Rattle.xdata.specs.Xdata.{fit_xdata}
use Rattle.record.specs.Record.{shape_of}
use Rattle.frame.specs.Frame.{Inputs, Caller, fit_stack, leaf_of, uncovered, within, by_record, frame_of}
use Rattle.walking.specs.Walk.{arm}
use Rattle.frame.proofs.Inner.{inner-within}

-- ---- a frame after the first, and the same by itself
later_same : (x : Res Caller) → ((c : Caller) → x ≡ Ok c → c.place ≢ Leaf) → Later arm x x
later_same (Ok c) h = covered c (h c refl) refl refl
later_same (Err r) h = refusal r refl refl

later-need : (b : Bool) (r : Refusal) (x y : Res Caller) → Later arm x y → Later arm (need b r >> x) (need b r >> y)
later-need true r x y h = h
later-need false r x y h = refusal r refl refl

later-bind : {A : Type 0} (z : Res A) (f g : A → Res Caller) → ((a : A) → Later arm (f a) (g a)) → Later arm (z >>= f) (z >>= g)
later-bind (Ok a) f g h = h a
later-bind (Err r) f g h = refusal r refl refl

later-uncovered : (g : Regs) → Later arm (uncovered false g) (uncovered true g)
later-uncovered g = leaf (leaf_of g) refl refl refl

later-record : (t : Inputs) (e : Entry) (g : Regs) → Later arm (by_record false t e g) (by_record true t e g)
unfolding by_record
later-record t e g = later-bind (shape_of t.xdata e) _ _ (λ s. go s (ltb (even g.pc - t.image - e.start) s.span))
  where
    in-it : Shape → Res Caller
    in-it s = within t.stack s (even g.pc - t.image - e.start) g

    go : (s : Shape) (b : Bool) → Later arm (if b then in-it s else uncovered false g) (if b then in-it s else uncovered true g)
    go s true = later_same (in-it s) (inner-within t.stack s (even g.pc - t.image - e.start) g)
    go s false = later-uncovered g

pub later-frame : (t : Inputs) (g : Regs) → Later arm (frame_of false t g) (frame_of true t g)
unfolding frame_of
later-frame t g =
    later-need (fit_stack t.stack && fit_xdata t.xdata) UnfitInput _ _
    (later-bind (find t.image t.pdata g.pc) _ _ (λ e. later-need (stands t.stack g.sp) BadStack _ _ (go e)))
  where
    go : (e : Option Entry) → Later arm (maybe e (uncovered false g) (λ e. by_record false t e g)) (maybe e (uncovered true g) (λ e. by_record true t e g))
    go None = later-uncovered g
    go (Some e) = later-record t e g
