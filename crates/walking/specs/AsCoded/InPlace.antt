-- The walk by turns (unwinding/specs/AsCoded/Turn.antt) in place: r0-r12 and d0-d31 are lent from above. That the turns come to `walk` is a
-- law there; that these are those turns is what the contracts say.
use Rattle.std.specs.Prelude.{ℕ, ◌+◌, ◌≡◌, List, true, eqb, Result, Ok, Err}
use Rattle.words.specs.Bits.{even}
use Rattle.words.specs.declared.Place.TheVariants.{Leaf}
use Rattle.unwinding.specs.AsCoded.Turn as General
use Rattle.machine.specs.AsCoded.Answers.{regs}
use Rattle.frame.specs.declared.Came.{Came}
use Rattle.frame.specs.Frame.{Inputs}
use Rattle.walking.specs.declared.Stop.{Stop}
use Rattle.walking.specs.declared.Stop.TheVariants.{Full}
use Rattle.walking.specs.declared.Standing.{Standing}
use Rattle.walking.specs.declared.Going.{Going}
use Rattle.walking.specs.declared.Frame.{Frame}
use Rattle.walking.specs.Walk.{arm, frames}

-- where a walk stands, with the lists as they stand
abbrev pub stands : Standing → (r d : List ℕ) → General.Standing arm
stands s r d = record { at = regs r s.sp s.lr s.pc d; end = s.end; frames = s.frames; codes = s.codes }

-- a frame unwound
abbrev pub gone_in : Standing → Came → Going
gone_in s u = record {
  frame = record { pc = even s.pc; sp = s.sp; place = u.place };
  next = record { sp = u.sp; lr = u.lr; pc = even u.lr; end = eqb (even u.lr) 0; frames = s.frames + 1; codes = s.codes + u.codes };
}

-- at most 1,020 codes run in a frame
abbrev pub SmallIn : General.Standing arm → Type 0
SmallIn s = General.Small arm 1020 s

-- the frame at which a turn that does not go on stops
abbrev pub halted_at : Standing → Frame
halted_at s = record { pc = even s.pc; sp = s.sp; place = Leaf }

-- a turn in place as the walk's: it goes on, with the lists as they then stand, or stops, and they do not count
abbrev pub turning_in : General.Standing arm → Result Going Stop → (r d : List ℕ) → General.Turn arm
turning_in s (Ok g) r d = record { on = true; stop = Full; frame = g.frame; next = stands g.next r d }
turning_in s (Err z) r d = General.halted arm s z

-- it does what a turn of the walk does
abbrev pub Goes : (t : Inputs) (room : ℕ) (s : General.Standing arm) (x : Result Going Stop) (r d : List ℕ) → Type 0
Goes t room s x r d = turning_in s x r d ≡ General.turn_of arm (frames t) room s
