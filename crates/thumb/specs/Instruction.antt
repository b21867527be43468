-- The instruction at an offset of a function's bytes (RULES 13.1). It has 16 bits if its first halfword is below 0xE800, and else 32.
use Rattle.std.specs.Prelude.{ℕ, ◌+◌, ◌*◌, ◌^◌, List, length, leb, ltb, if◌then◌else◌}
use Rattle.words.specs.Units.{halfwords}
use Rattle.lent.specs.Little.{word16}
use Rattle.thumb.specs.Rows.{rows16, rows32, action_in}
use Rattle.thumb.specs.declared.Action.TheVariants.{Other}
use Rattle.thumb.specs.declared.Instruction.{Instruction}

abbrev pub of16 : (h : ℕ) → Instruction
of16 h = record { action = action_in rows16 h; size = halfwords 1 }

abbrev pub of32 : (w : ℕ) → Instruction
of32 w = record { action = action_in rows32 w; size = halfwords 2 }

-- where not all of its halfwords are there, there is none
abbrev pub no_instruction : Instruction
no_instruction = record { action = Other; size = halfwords 0 }

unfoldable pub instruction_at : List ℕ → (at : ℕ) → Instruction
instruction_at s o =
    if leb (o + 2) (length s)
    then (if ltb (word16 s o) 0xE800
    then of16 (word16 s o)
    else if leb (o + 4) (length s) then of32 (2 ^ 16 * word16 s o + word16 s (o + 2)) else no_instruction)
    else no_instruction
