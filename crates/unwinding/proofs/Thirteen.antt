-- What refusal 13 makes of a frame: it stays, unless it is one after the first that leaves SP the same.
-- Assumes nothing.
use Rattle.std.specs.Prelude.{Ok, Err}
use mathlib.Core.Path.{◌≡◌, refl, sym, ◌∙◌, subst}
use mathlib.Core.Bool.{Bool, true, false, ◌||◌, not}
use lib.Dec.{eqb}
use Rattle.words.specs.declared.Refusal.{Refusal}
use Rattle.words.specs.declared.Refusal.TheVariants.{SpSame}
use Rattle.words.specs.Answer.{Res}
use Rattle.unwinding.specs.Trail.{Walker, FrameOf, next_frame}

module _ (W : Walker) (frame_of : FrameOf W) (first : Bool) (g : W.State) where
  open W use {sp, Caller, to}

  -- the first frame, or one that moved SP
  abbrev pub passes : Caller → Bool
  passes c = first || not (eqb (sp (to c)) (sp g))

  pub data Next : Res Caller → Type 0 where
    refused : (r : Refusal) → frame_of first g ≡ Err r → Next (Err r)
    passed : (c : Caller) → frame_of first g ≡ Ok c → passes c ≡ true → Next (Ok c)
    still : (c : Caller) → frame_of first g ≡ Ok c → passes c ≡ false → Next (Err SpSame)

  pub next-is : {x : Res Caller} → Next x → next_frame W frame_of first g ≡ x
  unfolding next_frame
  next-is (refused r e) = rw e refl
  next-is (passed c e p) = rw (e, p) refl
  next-is (still c e p) = rw (e, p) refl

  pub next : Next (next_frame W frame_of first g)
  next = go (frame_of first g) refl
    where
      of : {x : Res Caller} → Next x → Next (next_frame W frame_of first g)
      of n = subst Next (sym (next-is n)) n

      by-sp : (c : Caller) → frame_of first g ≡ Ok c → (b : Bool) → passes c ≡ b → Next (next_frame W frame_of first g)
      by-sp c e true p = of (passed c e p)
      by-sp c e false p = of (still c e p)

      go : (x : Res Caller) → frame_of first g ≡ x → Next (next_frame W frame_of first g)
      go (Ok c) e = by-sp c e (passes c) refl
      go (Err r) e = of (refused r e)

  pub next-kept : ((c : Caller) → frame_of first g ≡ Ok c → passes c ≡ true) → frame_of first g ≡ next_frame W frame_of first g
  next-kept h = go (frame_of first g) refl
    where
      go : (x : Res Caller) → frame_of first g ≡ x → frame_of first g ≡ next_frame W frame_of first g
      go (Ok c) e = e ∙ sym (next-is (passed c e (h c e)))
      go (Err r) e = e ∙ sym (next-is (refused r e))

  -- one that unwound passed
  pub next-was : (c : Caller) → next_frame W frame_of first g ≡ Ok c → (frame_of first g ≡ Ok c) × (passes c ≡ true)
  next-was c e = go (subst Next e next)
    where
      go : {c : Caller} → Next (Ok c) → (frame_of first g ≡ Ok c) × (passes c ≡ true)
      go (passed c e p) = (e, p)
