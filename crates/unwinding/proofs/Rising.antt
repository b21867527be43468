-- What holds of a walk where no frame lowers SP or runs more than so many codes: SP rises with each frame after the first, so that a walk
-- below a top is short, and the sum of codes is small.
-- Assumes nothing.
use Rattle.std.specs.Prelude.{if◌then◌else◌, Ok}
use Prim.Native.Nat.{ℕ, ◌+◌, ◌*◌, ◌≤◌}
use mathlib.Core.Path.{◌≡◌, refl}
use mathlib.Core.Bool.{Bool, true, false}
use native.Mathlib.Omega.{arith}
use lib.Dec.{eqb}
use lib.ListN.{length}
use borrow.Author.Tests.{eqb-true, eqb-false, not-true}
use Rattle.unwinding.specs.Trail.{Walker, FrameOf, Trail, next_frame, walk_from, walk}
use Rattle.unwinding.specs.AsCoded.Turn.{Standing, Small, gone}
use Rattle.unwinding.proofs.Thirteen.{next-was}
use Rattle.unwinding.proofs.Walks.{Walks, no_room, refused, last, more, walks}

pub record Bounded (W : Walker) (frame_of : FrameOf W) (most : ℕ) : Type 0 where
  pub up : (first : Bool) (g : W.State) (c : W.Caller) → frame_of first g ≡ Ok c → W.sp g ≤ W.sp (W.to c)
  pub few : (first : Bool) (g : W.State) (c : W.Caller) → frame_of first g ≡ Ok c → W.codes c ≤ most

module _ (W : Walker) (frame_of : FrameOf W) (most : ℕ) (bounded : Bounded W frame_of most) where
  open W use {State, sp, Caller, to}

  pub next-few : (first : Bool) (g : State) (c : Caller) → next_frame W frame_of first g ≡ Ok c → W.codes c ≤ most
  next-few first g c h = bounded.few first g c (next-was W frame_of first g c h).0

  pub next_up : (first : Bool) (g : State) (c : Caller) → next_frame W frame_of first g ≡ Ok c → sp g + 1 ≤ sp (to c) + (if first then 1 else 0)
  next_up true g c h = omega (arith, bounded.up true g c (next-was W frame_of true g c h).0)
  next_up false g c h =
      let u = next-was W frame_of false g c h in
      let moved = eqb-false (sp (to c)) (sp g) (not-true (eqb (sp (to c)) (sp g)) u.1) in
      omega (arith, bounded.up false g c u.0)

  -- where a walk stands
  pub small-on : (s : Standing W) (c : Caller) → Small W most s → next_frame W frame_of (eqb s.frames 0) s.at ≡ Ok c → Small W most (gone W s c).next
  small-on s c k h =
      record { rose = go (eqb s.frames 0) refl (next_up _ s.at c h); few = omega (arith, next-few (eqb s.frames 0) s.at c h, k.few) }
    where
      go : (b : Bool) → eqb s.frames 0 ≡ b → sp s.at + 1 ≤ sp (to c) + (if b then 1 else 0) → s.frames + 1 ≤ sp (to c) + 1
      go true e l = omega (arith, eqb-true s.frames 0 e)
      go false e l = omega (arith, k.rose)

  -- the whole walk
  few-run : {room : ℕ} {first : Bool} {g : State} {w : Trail W} → Walks W frame_of room first g w → w.codes ≤ most * length w.frames
  few-run no_room = omega arith
  few-run (refused r e) = omega arith
  few-run {first} {g} (last c e z) = omega (arith, next-few first g c e)
  few-run {first} {g} (more c e z below) = omega (arith, next-few first g c e, few-run below)

  pub walk-codes : (room : ℕ) (first : Bool) (g : State) → (walk_from W frame_of room first g).codes ≤ most * length (walk_from W frame_of room first g).frames
  walk-codes room first g = few-run (walks W frame_of room first g)

  module _ (top : ℕ) (below_top : (first : Bool) (g : State) (c : Caller) → frame_of first g ≡ Ok c → sp (to c) ≤ top) where
    short : {room : ℕ} {first : Bool} {g : State} {w : Trail W} → sp g ≤ top → Walks W frame_of room first g w → length w.frames + sp g ≤ top + (if first then 1 else 0)
    short l no_room = omega arith
    short l (refused r e) = omega arith
    short {first} {g} l (last c e z) = omega (arith, next_up first g c e, below_top first g c (next-was W frame_of first g c e).0)
    short {first} {g} l (more c e z below) =
        let l' : sp (to c) ≤ top = below_top first g c (next-was W frame_of first g c e).0 in
        omega (arith, next_up first g c e, short l' below)

    pub walk-length : (room : ℕ) (g : State) → sp g ≤ top → length (walk W frame_of room g).frames + sp g ≤ top + 1
    walk-length room g l = short l (walks W frame_of room true g)
