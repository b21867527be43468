-- The walk by turns (unwinding/specs/AsCoded/Turn.antt), with what the tables showed carried along.
use Rattle.std.specs.Prelude.{ℕ, Result, Ok, Err, if◌then◌else◌}
use Rattle.unwinding.specs.AsCoded.Turn as General
use Rattle.machine.specs.declared.Regs.{Regs}
use Rattle.pdata.specs.declared.Checked.{Checked}
use Rattle.frame.specs.Frame.{Inputs, checked}
use Rattle.walking.specs.declared.State.{State}
use Rattle.walking.specs.declared.Stop.{Stop}
use Rattle.walking.specs.declared.Turn.{Turn}
use Rattle.walking.specs.Walk.{arm, frames}

-- the code's state, as the walk's
abbrev pub standing : State → General.Standing arm
standing s = record { at = s.regs; end = s.end; frames = s.frames; codes = s.codes }

-- and back, with what a turn comes to: it goes on, or the walk stops
abbrev pub state : Checked → General.Standing arm → State
state k s = record { checked = k; regs = s.at; end = s.end; frames = s.frames; codes = s.codes }

abbrev pub turned : Checked → General.Turn arm → Result Turn Stop
turned k r = if r.on then Ok (record { frame = r.frame; next = state k r.next }) else Err r.stop

abbrev pub begun : Inputs → Regs → State
begun t g = state (checked t) (General.begun arm g)

abbrev pub turn_of : Inputs → (room : ℕ) → State → Result Turn Stop
turn_of t room s = turned s.checked (General.turn_of arm (frames t) room (standing s))

-- at most 1,020 codes run in a frame
abbrev pub Small : State → Type 0
Small s = General.Small arm 1020 (standing s)
