-- The walk by turns, as a loop takes them: what a turn does from where the walk stands. That the turns come to `walk` is a law
-- (proofs/Looping.antt).
use Rattle.std.specs.Prelude.{ℕ, ◌+◌, ◌*◌, ◌≤◌, Bool, true, false, leb, eqb, if◌then◌else◌}
use Rattle.words.specs.declared.Place.TheVariants.{Leaf}
use Rattle.words.specs.Answer.{either}
use Rattle.unwinding.specs.Trail.{Walker, FrameOf, next_frame}

-- where a walk stands: the state, whether its pc 0 ends the walk, the frames listed and the sum of their codes
pub record Standing (W : Walker) : Type 0 where
  pub at : W.State
  pub end : Bool
  pub frames : ℕ
  pub codes : ℕ

-- what a turn does: if it goes on, the frame to list and where the walk stands then; if not, why it stops
pub record Turn (W : Walker) : Type 0 where
  pub on : Bool
  pub stop : W.Stop
  pub frame : W.Frame
  pub next : Standing W

-- wherever a walk stands, SP rose with each frame after the first, and the sum of codes is small where at most so many run in a frame
pub record Small (W : Walker) (most : ℕ) (s : Standing W) : Type 0 where
  pub rose : s.frames ≤ W.sp s.at + 1
  pub few : s.codes ≤ most * s.frames

module _ (W : Walker) where
  open W use {State, pc, Caller, to, place, listed_as, Stop, ended, full, refused_at}

  -- before the first frame
  abbrev pub begun : State → Standing W
  begun g = record { at = g; end = false; frames = 0; codes = 0 }

  -- no further
  abbrev pub halted : Standing W → Stop → Turn W
  halted s x = record { on = false; stop = x; frame = listed_as s.at Leaf; next = s }

  -- a frame unwound: it is listed, and the caller's pc 0 ends the walk
  abbrev pub gone : Standing W → Caller → Turn W
  gone s c = record {
    on = true;
    stop = full;
    frame = listed_as s.at (place c);
    next = record { at = to c; end = eqb (pc (to c)) 0; frames = s.frames + 1; codes = s.codes + W.codes c };
  }

  -- one turn: at the end (RULES 7.4), else without room (RULES 7.3), else by the next frame, unwound or refused (RULES 7.5)
  unfoldable pub turn_of : FrameOf W → (room : ℕ) → Standing W → Turn W
  turn_of frame_of room s =
      if s.end
      then halted s ended
      else
      (if leb room s.frames
      then halted s full
      else either (next_frame W frame_of (eqb s.frames 0) s.at) (λ r. halted s (refused_at s.at r)) (gone s))
