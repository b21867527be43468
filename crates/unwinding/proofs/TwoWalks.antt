-- Two walks beside each other: with more room, and over frames of which each that unwinds in the first unwinds so in the second.
-- Assumes nothing.
use Rattle.std.specs.Prelude.{Ok, Err}
use Prim.Native.Nat.{ℕ, zero, suc, ◌≤◌, ◌<◌, min}
use mathlib.Core.Path.{◌≡◌, refl, sym, ap, ◌∙◌}
use mathlib.Core.List.{List, [], ◌∷◌, ◌++◌, append_assoc}
use mathlib.Core.Bool.{Bool, false}
use lib.ListN.{length, take, drop}
use lib.Seq.{take-append_seam}
use native.Mathlib.Omega.{arith}
use borrow.Author.Tests.{eq-eqb, ne_eqb}
use Rattle.words.specs.Refusals.{number}
use Rattle.words.specs.declared.Refusal.{Refusal}
use Rattle.unwinding.specs.Extent.{of_extent}
use Rattle.unwinding.specs.Trail.{Walker, FrameOf, Trail, listed, filled, next_frame, walk_from}
use Rattle.unwinding.proofs.Staying.{Stays, stays-given, stays-bind}
use Rattle.unwinding.proofs.Walks.{Walks, no_room, refused, last, more, walks, walks-is}

-- a list begins with another
pub record Begins {F : Type 0} (xs ys : List F) : Type 0 where
  pub rest : List F
  pub whole : ys ≡ xs ++ rest

begins-on : {F : Type 0} (x : F) (xs ys : List F) → Begins xs ys → Begins (x ∷ xs) (x ∷ ys)
begins-on x xs ys b = record { rest = b.rest; whole = ap (λ l. x ∷ l) b.whole }

-- and so what two walks leave in lent lists, as far as the first went
pub begins-alike : (W : Walker) (l l' : List W.Frame) (w w' : Trail W) → Begins w.frames w'.frames
    → take (length w.frames) (filled W l w) ≡ take (length w.frames) (filled W l' w')
begins-alike W l l' w w' b =
    let n : ℕ = length w.frames in
    let tail = drop (length w'.frames) l' in
    take-append_seam w.frames (drop n l) ∙ sym (take-append_seam w.frames (b.rest ++ tail)) ∙ ap (take n) (sym (append_assoc w.frames b.rest tail))
    ∙ ap (λ fs. take n (fs ++ tail)) (sym b.whole)

-- ---- less room
pub record Shorter (W : Walker) (room : ℕ) (w w' : Trail W) : Type 0 where
  pub begins : Begins w.frames w'.frames
  pub frames : length w.frames ≡ min room (length w'.frames)
  pub whole : length w.frames < room → w ≡ w'

module _ (W : Walker) (frame_of : FrameOf W) where
  open W use {State, listed_as, place}

  cut : {room : ℕ} {first : Bool} {g : State} {w : Trail W} (room' : ℕ) → room ≤ room' → Walks W frame_of room first g w → Shorter W room w (walk_from W frame_of room' first g)
  unfolding walk_from
  cut {first} {g} room' h no_room =
      record { begins = record { rest = (walk_from W frame_of room' first g).frames; whole = refl }; frames = omega arith; whole = λ l. absurd (omega arith) }
  cut zero h (refused r e) = absurd (omega arith)
  cut zero h (last c e z) = absurd (omega arith)
  cut zero h (more c e z below) = absurd (omega arith)
  cut (suc n) h (refused r e) = rw e (record { begins = record { rest = []; whole = refl }; frames = omega arith; whole = λ l. refl })
  cut (suc n) h (last c e z) = rw (e, eq-eqb _ _ z) (record { begins = record { rest = []; whole = refl }; frames = omega arith; whole = λ l. refl })
  cut {g} (suc n) h (more {w} c e z below) =
      let s = cut n (omega arith) below in
      rw (e, ne_eqb _ _ z)
      (record { begins = begins-on (listed_as g (place c)) _ _ s.begins; frames = omega (arith, s.frames); whole = λ l. ap (listed W g c) (s.whole (omega arith)) })

  pub shorter : (room room' : ℕ) → room ≤ room' → (first : Bool) (g : State) → Shorter W room (walk_from W frame_of room first g) (walk_from W frame_of room' first g)
  shorter room room' h first g = cut room' h (walks W frame_of room first g)

-- ---- other frames
module _ (W : Walker) (f f' : FrameOf W) (given : (first : Bool) (g : W.State) (c : W.Caller) → next_frame W f first g ≡ Ok c → next_frame W f' first g ≡ Ok c) where
  open W use {State, place, listed_as, refused_at}

  -- the frames that a walk lists before it stops come first in the other
  begun-by : {room : ℕ} {first : Bool} {g : State} {w : Trail W} → Walks W f room first g w → Begins w.frames (walk_from W f' room first g).frames
  unfolding walk_from
  begun-by no_room = record { rest = []; whole = refl }
  begun-by {room} {first} {g} (refused r e) = record { rest = (walk_from W f' room first g).frames; whole = refl }
  begun-by {first} {g} (last c e z) = rw (given first g c e, eq-eqb _ _ z) (record { rest = []; whole = refl })
  begun-by {first} {g} (more c e z below) = rw (given first g c e, ne_eqb _ _ z) (begins-on (listed_as g (place c)) _ _ (begun-by below))

  listed-stay : (room : ℕ) (first : Bool) (g : State) → Begins (walk_from W f room first g).frames (walk_from W f' room first g).frames
  listed-stay room first g = begun-by (walks W f room first g)

  -- and all of it, where it does not stop by a refusal that may not stay
  module _ (Kept : Refusal → Type 0) (kept : (first : Bool) (g : State) (r : Refusal) → next_frame W f first g ≡ Err r → Kept r → next_frame W f' first g ≡ Err r) where
    stays : {room : ℕ} {first : Bool} {g : State} {w : Trail W} → ((h : State) (r : Refusal) → w.stop ≡ refused_at h r → Kept r) → Walks W f room first g w → Walks W f' room first g w
    stays k no_room = no_room
    stays {first} {g} k (refused r e) = refused r (kept first g r e (k g r refl))
    stays {first} {g} k (last c e z) = last c (given first g c e) z
    stays {first} {g} k (more c e z below) = more c (given first g c e) z (stays k below)

    pub walk-stays : (room : ℕ) (first : Bool) (g : State) → ((h : State) (r : Refusal) → (walk_from W f room first g).stop ≡ refused_at h r → Kept r)
        → walk_from W f' room first g ≡ walk_from W f room first g
    walk-stays room first g k = walks-is W f' (stays k (walks W f room first g))

-- frames that are all alike make one walk
pub walk_same : (W : Walker) (f f' : FrameOf W) → ((first : Bool) (g : W.State) → next_frame W f first g ≡ next_frame W f' first g)
    → (room : ℕ) (first : Bool) (g : W.State) → walk_from W f' room first g ≡ walk_from W f room first g
walk_same W f f' h room first g =
    walk-stays W f f' (λ b s c e. sym (h b s) ∙ e) (λ r. Unit {0}) (λ b s r e k. sym (h b s) ∙ e) room first g (λ s r e. tt)

-- ---- the same frames with more lent: those that stay, one by one, make a walk that stays
module _ (W : Walker) (f f' : FrameOf W) (frame-stays : (first : Bool) (g : W.State) → Stays (f first g) (f' first g)) where
  next-stays : (first : Bool) (g : W.State) → Stays (next_frame W f first g) (next_frame W f' first g)
  unfolding next_frame
  next-stays first g = stays-bind (f first g) (f' first g) _ _ (frame-stays first g) (λ c p e. refl)

  next-given : (first : Bool) (g : W.State) (c : W.Caller) → next_frame W f first g ≡ Ok c → next_frame W f' first g ≡ Ok c
  next-given first g c = stays-given (next_frame W f first g) (next_frame W f' first g) c (next-stays first g)

  pub listed-wider : (room : ℕ) (first : Bool) (g : W.State) → Begins (walk_from W f room first g).frames (walk_from W f' room first g).frames
  listed-wider = listed-stay W f f' next-given

  pub walk-wider : (room : ℕ) (first : Bool) (g : W.State) → ((h : W.State) (r : Refusal) → (walk_from W f room first g).stop ≡ W.refused_at h r → of_extent (number r) ≡ false)
      → walk_from W f' room first g ≡ walk_from W f room first g
  walk-wider = walk-stays W f f' next-given (λ r. of_extent (number r) ≡ false) (λ first g r e k. next-stays first g (rw e k) ∙ e)
