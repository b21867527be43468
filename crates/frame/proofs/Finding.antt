-- One frame by the record found, and by the checks that a walk makes once.
-- Assumes nothing.
use Rattle.std.specs.Prelude.{Ok, Err, Option, Some}
use Prim.Native.Nat.{ℕ, ◌-◌, ◌%◌}
use mathlib.Core.Path.{◌≡◌, refl}
use mathlib.Core.Bool.{Bool, true, false, ◌&&◌}
use lib.ListN.{length}
use lib.Dec.{eqb}
use native.Mathlib.Omega.{arith}
use Rattle.words.specs.Bits.{even}
use Rattle.words.specs.declared.Refusal.TheVariants.{UnfitInput}
use Rattle.words.specs.Answer.{Res}
use Rattle.machine.specs.declared.Regs.{Regs}
use Rattle.machine.specs.Step.{stands}
use Rattle.pdata.specs.declared.Entry.{Entry}
use Rattle.pdata.specs.Pdata.{find}
use Rattle.xdata.specs.Xdata.{fit_xdata}
use Rattle.pdata.proofs.Finding.{find-unfit}
use Rattle.frame.specs.Frame.{Inputs, fit_stack, by_record, after_find, frame_of, checked}
use Rattle.frame.specs.AsCoded.FromPlace.{by_word}

-- the record found, at an offset of its function
pub after-record :
    (first : Bool) (t : Inputs) (g : Regs) (x : Res (Option Entry)) (e : Entry) (o : ℕ)
    → x ≡ Ok (Some e) → stands t.stack g.sp ≡ true → o ≡ even g.pc - t.image - e.start
    → after_find first t g x ≡ by_word first t.xdata e.word t.stack o g
unfolding by_record
after-record first t g x e o q s at = rw (q, s, at) refl

-- by the checks that a walk makes once
module _ (first : Bool) (t : Inputs) (g : Regs) where
  abbrev parts : Bool
  parts = fit_stack t.stack && fit_xdata t.xdata

  abbrev whole : Bool
  whole = eqb (length t.pdata % 8) 0

  pub frame-unfit : (checked t).fit ≡ false → frame_of first t g ≡ Err UnfitInput
  unfolding frame_of
  frame-unfit h = go parts refl h
    where
      go : (b : Bool) → parts ≡ b → (b && whole) ≡ false → frame_of first t g ≡ Err UnfitInput
      go true e q = rw (e, find-unfit t.image t.pdata g.pc q) refl
      go false e q = rw e refl

  pub frame-fit : (checked t).fit ≡ true → (frame_of first t g ≡ after_find first t g (find t.image t.pdata g.pc)) × (whole ≡ true)
  unfolding frame_of
  frame-fit h = go parts refl h
    where
      go : (b : Bool) → parts ≡ b → (b && whole) ≡ true → (frame_of first t g ≡ after_find first t g (find t.image t.pdata g.pc)) × (whole ≡ true)
      go true e q = (rw e refl, q)
      go false e q = absurd (let z : ◌≡◌ {A = ℕ} 0 1 = cc in omega arith)
