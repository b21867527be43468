-- What holds wherever the loop of `walk` begins a turn; how a turn keeps it, and what it says when the loop is left: the walk's laws of
-- unwinding/proofs/Looping.antt, and that what the tables showed is carried along.
-- Assumes nothing.
use Rattle.std.specs.Prelude.{Ok, Err}
use Prim.Native.Nat.{ℕ, ◌<◌}
use mathlib.Core.Path.{◌≡◌, refl, subst}
use mathlib.Core.Bool.{true}
use mathlib.Core.List.{List, [], ◌∷◌, ◌++◌}
use lib.ListN.{length, set}
use Rattle.unwinding.proofs.Turns.{Turns, turns}
use Rattle.unwinding.specs.AsCoded.Turn as General
use Rattle.unwinding.proofs.Looping as Looping
use Rattle.unwinding.proofs.Looping.{less}
use Rattle.machine.specs.declared.Regs.{Regs}
use Rattle.frame.specs.Frame.{Inputs, inputs, checked}
use Rattle.walking.specs.declared.Frame.{Frame}
use Rattle.walking.specs.declared.State.{State}
use Rattle.walking.specs.declared.Stop.{Stop}
use Rattle.walking.specs.declared.Turn.{Turn}
use Rattle.walking.specs.Walk.{arm, frames, walk, walked, filled}
use Rattle.walking.specs.AsCoded.Turn.{standing, state, turn_of, begun}
use Rattle.walking.proofs.Turns.{bounded, went_on, went-no}

pub record Midway (t : Inputs) (g : Regs) (L : List Frame) (left : ℕ) (s : State) (fs ys : List Frame) : Type 0 where
  pub walk : Looping.Midway arm (frames t) 1020 g L left (standing s) fs ys
  pub checks : s.checked ≡ checked t

module _ {t : Inputs} {g : Regs} {L : List Frame} {left : ℕ} {s : State} {fs ys : List Frame} (h : Midway t g L left s fs ys) where
  abbrev T : General.Turn arm
  T = General.turn_of arm (frames t) (length L) (standing s)

  met : Turns arm (frames t) (length L) (standing s) T
  met = turns arm (frames t) (length L) (standing s)

  -- a turn that goes on keeps it
  module _ (r : Turn) (e : turn_of t (length L) s ≡ Ok r) where
    on : (T.on ≡ true) × (record { frame = T.frame; next = state s.checked T.next } ≡ r)
    on = went_on s.checked T r e

    pub within : s.frames < length ys
    within = Looping.within arm (frames t) 1020 h.walk T met on.0

    pub fewer : less left < left
    fewer = Looping.fewer arm (frames t) 1020 h.walk T met on.0

    pub midway-on : Midway t g L (less left) r.next (fs ++ (r.frame ∷ [])) (set ys s.frames r.frame)
    midway-on =
        subst (λ (y : Turn). Midway t g L (less left) y.next (fs ++ (y.frame ∷ [])) (set ys s.frames y.frame)) on.1
        (record { walk = Looping.midway-on arm (frames t) 1020 h.walk T met on.0 (bounded t); checks = h.checks })

  -- one that does not: the walk ends here
  pub ended : (z : Stop) → turn_of t (length L) s ≡ Err z → (record { stop = z; frames = s.frames; codes = s.codes } ≡ walked (walk t (length L) g)) × (ys ≡ filled L (walk t (length L) g))
  ended z e =
      let o = went-no s.checked T z e in
      let w = Looping.ended-with arm (frames t) 1020 h.walk T met o.0 in
      (rw (w, h.walk.many, o.1) refl, Looping.filled-with arm (frames t) 1020 h.walk T met o.0)

-- the tables' checks do not read the image
pub same-checks : (i : ℕ) (p : List ℕ) (v : ℕ) (x : List ℕ) (b : ℕ) (k : List ℕ) → checked (inputs 0 p v x b k) ≡ checked (inputs i p v x b k)
same-checks i p v x b k = refl

-- before the first frame
pub midway-begins : (i : ℕ) (p : List ℕ) (v : ℕ) (x : List ℕ) (b : ℕ) (k : List ℕ) (g : Regs) (L : List Frame) (s : State) → s ≡ begun (inputs 0 p v x b k) g
    → Midway (inputs i p v x b k) g L (length L) s [] L
midway-begins i p v x b k g L s e =
    rw e (record { walk = Looping.midway-begins arm (frames (inputs i p v x b k)) 1020 g L; checks = same-checks i p v x b k })
