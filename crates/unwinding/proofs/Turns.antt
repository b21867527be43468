-- What a turn of a walk does, by what it met.
-- Assumes nothing.
use Rattle.std.specs.Prelude.{Ok, Err}
use Prim.Native.Nat.{ℕ, ◌<◌, ◌≤◌}
use mathlib.Core.Path.{◌≡◌, refl, subst}
use mathlib.Core.Bool.{Bool, true, false}
use lib.Dec.{leb, eqb}
use borrow.Author.Tests.{leb-true, leb-false, le-leb, lt-leb}
use Rattle.words.specs.declared.Refusal.{Refusal}
use Rattle.words.specs.Answer.{Res}
use Rattle.unwinding.specs.Trail.{Walker, FrameOf, next_frame}
use Rattle.unwinding.specs.AsCoded.Turn.{Standing, Turn, halted, gone, turn_of}

module _ (W : Walker) (frame_of : FrameOf W) (room : ℕ) (s : Standing W) where
  open W use {Caller, ended, full, refused_at}

  abbrev x : Res Caller
  x = next_frame W frame_of (eqb s.frames 0) s.at

  pub data Turns : Turn W → Type 0 where
    at-end : s.end ≡ true → Turns (halted W s ended)
    at-full : s.end ≡ false → room ≤ s.frames → Turns (halted W s full)
    at-refusal : (r : Refusal) → s.end ≡ false → s.frames < room → x ≡ Err r → Turns (halted W s (refused_at s.at r))
    goes : (c : Caller) → s.end ≡ false → s.frames < room → x ≡ Ok c → Turns (gone W s c)

  pub turn_is : {r : Turn W} → Turns r → r ≡ turn_of W frame_of room s
  unfolding turn_of
  turn_is (at-end p) = rw p
  turn_is (at-full p f) = rw (p, le-leb _ _ f)
  turn_is (at-refusal r p f w) = rw (p, lt-leb _ _ f, w)
  turn_is (goes c p f w) = rw (p, lt-leb _ _ f, w)

  pub turns : Turns (turn_of W frame_of room s)
  turns = go s.end (leb room s.frames) x refl refl refl
    where
      of : {r : Turn W} → Turns r → Turns (turn_of W frame_of room s)
      of t = subst Turns (turn_is t) t

      go : (e f : Bool) (y : Res Caller) → s.end ≡ e → leb room s.frames ≡ f → x ≡ y → Turns (turn_of W frame_of room s)
      go true f y p q w = of (at-end p)
      go false true y p q w = of (at-full p (leb-true _ _ q))
      go false false (Err r) p q w = of (at-refusal r p (leb-false _ _ q) w)
      go false false (Ok c) p q w = of (goes c p (leb-false _ _ q) w)
