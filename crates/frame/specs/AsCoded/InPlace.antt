-- A frame in place: what it came to beside r0-r12 and d0-d31, which are lent. Its pc is LR with bit 0 cleared (RULES 6.3). That it is
-- `frame_of` is what the contracts of `frame_in` and of what it calls say.
use Rattle.std.specs.Prelude.{ℕ, ◌≡◌, List, Bool, Ok}
use Rattle.words.specs.Bits.{even}
use Rattle.words.specs.Answer.{Res, ◌>>=◌}
use Rattle.machine.specs.declared.Regs.{Regs}
use Rattle.machine.specs.AsCoded.Answers.{regs}
use Rattle.pdata.specs.declared.Checked.{Checked}
use Rattle.frame.specs.Frame.{Inputs, Caller, frame_of, checked}
use Rattle.frame.specs.declared.Came.{Came}

-- the caller that it came to, with the lists as they then stand, or a refusal, after which they do not count
abbrev pub caller_by : Came → (r d : List ℕ) → Caller
caller_by u r d = record { regs = regs r u.sp u.lr (even u.lr) d; place = u.place; handler = u.handler; codes = u.codes }

abbrev pub came_to : Res Came → (r d : List ℕ) → Res Caller
came_to u r d = u >>= λ c. Ok (caller_by c r d)

-- over tables whose checks were made: those of these inputs
abbrev pub Comes : (first : Bool) → Checked → Inputs → Regs → Res Came → (r d : List ℕ) → Type 0
Comes first c t g u r d = c ≡ checked t → came_to u r d ≡ frame_of first t g
