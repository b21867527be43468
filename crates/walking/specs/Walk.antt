-- The walk (unwinding/specs/Trail.antt, RULES 7.1 to 7.7) of 32-bit ARM: over `frame_of`, with its registers, frame records and stops.
use Rattle.std.specs.Prelude.{ℕ, ◌≡◌, List, Bool, length}
use Rattle.words.specs.Bits.{even}
use Rattle.words.specs.Answer.{Res}
use Rattle.unwinding.specs.Trail as General
use Rattle.unwinding.specs.Trail.{Walker, FrameOf}
use Rattle.machine.specs.declared.Regs.{Regs}
use Rattle.frame.specs.Frame.{Inputs, Caller, frame_of}
use Rattle.walking.specs.declared.Frame.{Frame}
use Rattle.walking.specs.declared.Stop.{Stop}
use Rattle.walking.specs.declared.Stop.TheVariants.{End, Full, Refused}
use Rattle.walking.specs.declared.Walked.{Walked}
use Rattle.walking.specs.declared.WalkedAll.{WalkedAll}

abbrev pub arm : Walker
arm = record {
  State = Regs;
  pc = λ g. g.pc;
  sp = λ g. g.sp;
  Caller = Caller;
  to = λ c. c.regs;
  place = λ c. c.place;
  codes = λ c. c.codes;
  Frame = Frame;
  listed_as = λ g p. record { pc = even g.pc; sp = g.sp; place = p };
  Stop = Stop;
  ended = End;
  full = Full;
  refused_at = λ g r. Refused r (even g.pc);
}

-- 12 is in `frame_of`
abbrev pub frames : Inputs → FrameOf arm
frames t first g = frame_of first t g

abbrev pub next_frame : (first : Bool) → Inputs → Regs → Res Caller
next_frame first t g = General.next_frame arm (frames t) first g

abbrev pub Trail : Type 0
Trail = General.Trail arm

abbrev pub walk_from : Inputs → (room : ℕ) → (first : Bool) → Regs → Trail
walk_from t room first g = General.walk_from arm (frames t) room first g

abbrev pub walk : Inputs → (room : ℕ) → Regs → Trail
walk t room g = General.walk arm (frames t) room g

-- the answer (RULES 7.7), and the lent list as the walk leaves it (RULES 7.2)
abbrev pub walked : Trail → Walked
walked w = record { stop = w.stop; frames = length w.frames; codes = w.codes }

abbrev pub filled : List Frame → Trail → List Frame
filled lent w = General.filled arm lent w

-- what a walk into a lent list comes to: the answer, and the list
abbrev pub Walks : Inputs → Regs → (lent left : List Frame) → Walked → Type 0
Walks t g lent left r = (r ≡ walked (walk t (length lent) g)) × (left ≡ filled lent (walk t (length lent) g))

-- both, for a list that goes in and comes back by value
abbrev pub walked_all : List Frame → Trail → WalkedAll
walked_all lent w = record { walked = walked w; list = filled lent w }
