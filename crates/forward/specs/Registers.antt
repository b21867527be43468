-- Registers by one number: r0-r12 as they are, LR as 14, d0-d31 as 16-47. SP and pc have none.
use Rattle.std.specs.Prelude.{ℕ, ◌+◌, ◌-◌, ◌*◌, ◌^◌, ◌≤◌, ◌≡◌, ◌⊎◌, get_or, ltb, if◌then◌else◌}
use Rattle.lent.specs.Lent.{Lent, word_at}
use Rattle.machine.specs.Registers.{reg}
use Rattle.machine.specs.declared.Regs.{Regs}

abbrev pub value : Regs → ℕ → ℕ
value g x = if ltb x 16 then reg g x else get_or g.d (x - 16) 0

-- bytes of a register: a word, or the two of a d register
abbrev pub width : ℕ → ℕ
width x = if ltb x 16 then 4 else 8

-- what the stack holds of a register at an address, of a d register the lower word first
abbrev pub held : Lent → (at x : ℕ) → ℕ
held k a x = if ltb x 16 then word_at k a else word_at k a + 2 ^ 32 * word_at k (a + 4)

-- r4-r11, LR, d8-d15: those that must last, since the caller has them back (RULES 10.4)
abbrev pub Lasting : ℕ → Type 0
Lasting x = ((4 ≤ x) × (x ≤ 11)) ⊎ ((x ≡ 14) ⊎ ((24 ≤ x) × (x ≤ 31)))
