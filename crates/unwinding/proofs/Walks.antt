-- A walk frame by frame: which next frames it meets and what it makes of them. Each walk is one of these, and each of these is the walk.
-- Assumes nothing.
use Rattle.std.specs.Prelude.{Ok, Err}
use Prim.Native.Nat.{ℕ, zero, suc, ◌≤◌}
use mathlib.Core.Path.{◌≡◌, refl, ap}
use mathlib.Core.Logic.{◌≢◌}
use mathlib.Core.Bool.{Bool, true, false}
use lib.ListN.{length}
use lib.Dec.{eqb}
use native.Mathlib.Omega.{arith}
use borrow.Author.Tests.{eqb-true, eqb-false, eq-eqb, ne_eqb}
use Rattle.words.specs.declared.Refusal.{Refusal}
use Rattle.words.specs.Answer.{Res}
use Rattle.unwinding.specs.Trail.{Walker, FrameOf, Trail, stopped, listed, next_frame, walk_from}

module _ (W : Walker) (frame_of : FrameOf W) where
  open W use {State, pc, Caller, to, ended, full, refused_at}

  pub data Walks : (room : ℕ) → (first : Bool) → State → Trail W → Type 0 where
    no_room : {first : Bool} {g : State} → Walks zero first g (stopped W full)
    refused : {n : ℕ} {first : Bool} {g : State} (r : Refusal) → next_frame W frame_of first g ≡ Err r → Walks (suc n) first g (stopped W (refused_at g r))
    last : {n : ℕ} {first : Bool} {g : State} (c : Caller) → next_frame W frame_of first g ≡ Ok c → pc (to c) ≡ 0 → Walks (suc n) first g (listed W g c (stopped W ended))
    more : {n : ℕ} {first : Bool} {g : State} {w : Trail W} (c : Caller) → next_frame W frame_of first g ≡ Ok c → pc (to c) ≢ 0 → Walks n false (to c) w → Walks (suc n) first g (listed W g c w)

  pub walks : (room : ℕ) (first : Bool) (g : State) → Walks room first g (walk_from W frame_of room first g)
  unfolding walk_from
  walks zero first g = no_room
  walks (suc n) first g = go (λ h. walks n false h) (next_frame W frame_of first g) refl
    where
      Whole : Type 0
      Whole = Walks (suc n) first g (walk_from W frame_of (suc n) first g)

      on : ((h : State) → Walks n false h (walk_from W frame_of n false h)) → (c : Caller) → next_frame W frame_of first g ≡ Ok c → (b : Bool) → eqb (pc (to c)) 0 ≡ b → Whole
      on below c e true q = rw (e, q) (last c e (eqb-true _ _ q))
      on below c e false q = rw (e, q) (more c e (eqb-false _ _ q) (below (to c)))

      go : ((h : State) → Walks n false h (walk_from W frame_of n false h)) → (x : Res Caller) → next_frame W frame_of first g ≡ x → Whole
      go below (Ok c) e = on below c e (eqb (pc (to c)) 0) refl
      go below (Err r) e = rw e (refused r e)

  -- so that a chain of calls, frame by frame, is the walk
  pub walks-is : {room : ℕ} {first : Bool} {g : State} {w : Trail W} → Walks room first g w → walk_from W frame_of room first g ≡ w
  unfolding walk_from
  walks-is no_room = refl
  walks-is (refused r e) = rw e refl
  walks-is (last c e z) = rw (e, eq-eqb _ _ z) refl
  walks-is {g} (more c e z below) = rw (e, ne_eqb _ _ z) (ap (listed W g c) (walks-is below))

  -- no more frames than the list has room for
  room-kept : {room : ℕ} {first : Bool} {g : State} {w : Trail W} → Walks room first g w → length w.frames ≤ room
  room-kept no_room = omega arith
  room-kept (refused r e) = omega arith
  room-kept (last c e z) = omega arith
  room-kept (more c e z below) = omega (arith, room-kept below)

  pub walk-room : (room : ℕ) (first : Bool) (g : State) → length (walk_from W frame_of room first g).frames ≤ room
  walk-room room first g = room-kept (walks room first g)
