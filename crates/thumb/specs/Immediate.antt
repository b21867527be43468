-- The constants of 32-bit instructions (RULES 13.3).
use Rattle.std.specs.Prelude.{ℕ, ◌+◌, ◌-◌, ◌*◌, ◌^◌, Bool, ◌&&◌, not, eqb, if◌then◌else◌}
use Rattle.words.specs.Bits.{bits}

-- the field i:imm3:imm8
abbrev pub imm12 : ℕ → ℕ
imm12 w = bits 0 8 w + 2 ^ 8 * bits 12 3 w + 2 ^ 11 * bits 26 1 w

-- bits 8 to 11 of the field say how its lowest byte is repeated, if they are below 4; else bits 7 to 11 are how far a byte with its
-- highest bit set is rotated to the right
abbrev pub repeated : ℕ → Bool
repeated i = eqb (bits 10 2 i) 0

abbrev pub repeats : ℕ → ℕ
repeats i = if eqb (bits 8 2 i) 0 then 1 else if eqb (bits 8 2 i) 1 then 0x00010001 else if eqb (bits 8 2 i) 2 then 0x01000100 else 0x01010101

-- a modified constant
unfoldable pub expanded : ℕ → ℕ
expanded i = if repeated i then bits 0 8 i * repeats i else (0x80 + bits 0 7 i) * 2 ^ (32 - bits 7 5 i)

-- a byte of zeros that is repeated is unpredictable
abbrev pub unpredictable : ℕ → Bool
unpredictable i = repeated i && not (eqb (bits 8 2 i) 0) && eqb (bits 0 8 i) 0
