-- The walk, over any machine's frame: frame after frame, each listed when it is unwound, up to an end, a full list or a refusal (RULES 7.1
-- to 7.7).
use Rattle.std.specs.Prelude.{ℕ, zero, suc, ◌+◌, List, [], ◌∷◌, ◌++◌, Bool, true, false, ◌||◌, not, length, drop, eqb, if◌then◌else◌, Ok}
use Rattle.words.specs.declared.Place.{Place}
use Rattle.words.specs.declared.Refusal.{Refusal}
use Rattle.words.specs.declared.Refusal.TheVariants.{SpSame}
use Rattle.words.specs.Answer.{Res, ◌>>=◌, ◌>>◌, need, either}

pub record Walker : Type 1 where
  -- a machine's state, with a pc and an SP
  pub State : Type 0
  pub pc : State → ℕ
  pub sp : State → ℕ
  -- what one frame answers: the caller's state, the frame's place, the number of codes run
  pub Caller : Type 0
  pub to : Caller → State
  pub place : Caller → Place
  pub codes : Caller → ℕ
  -- a frame record, of a frame at this place
  pub Frame : Type 0
  pub listed_as : State → Place → Frame
  -- why a walk stopped: a caller's pc was 0, the list was full, the frame was refused
  pub Stop : Type 0
  pub ended : Stop
  pub full : Stop
  pub refused_at : State → Refusal → Stop

-- one frame, the first of a walk or a later one, by a machine's rules
abbrev pub FrameOf : Walker → Type 0
FrameOf W = (first : Bool) → W.State → Res W.Caller

-- the frames listed, the stop, the sum of codes
pub record Trail (W : Walker) : Type 0 where
  pub frames : List W.Frame
  pub stop : W.Stop
  pub codes : ℕ

module _ (W : Walker) where
  open W use {State, pc, sp, Caller, to, place, Frame, listed_as, Stop, ended, full, refused_at}

  abbrev pub stopped : Stop → Trail W
  stopped s = record { frames = []; stop = s; codes = 0 }

  abbrev pub listed : State → Caller → Trail W → Trail W
  listed g c w = record { frames = listed_as g (place c) ∷ w.frames; stop = w.stop; codes = W.codes c + w.codes }

  -- the lent list as a walk leaves it
  abbrev pub filled : List Frame → Trail W → List Frame
  filled lent w = w.frames ++ drop (length w.frames) lent

  module _ (frame_of : FrameOf W) where
    -- one frame of a walk, which must change SP if it is a later one (13; RULES 7.6)
    unfoldable pub next_frame : FrameOf W
    next_frame first g = do
      c ← frame_of first g
      need (first || not (eqb (sp (to c)) (sp g))) SpSame
      Ok c

    -- the walk from this state, with room for so many more records
    unfoldable pub walk_from : (room : ℕ) → (first : Bool) → State → Trail W
    walk_from zero first g = stopped full
    walk_from (suc n) first g =
        either
        (next_frame first g)
        (λ r. stopped (refused_at g r))
        (λ c. let more = walk_from n false (to c) in listed g c (if eqb (pc (to c)) 0 then stopped ended else more))

    abbrev pub walk : (room : ℕ) → State → Trail W
    walk room g = walk_from room true g
