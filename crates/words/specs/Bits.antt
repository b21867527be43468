-- Bit fields of a number, bit 0 the lowest (RULES 1.3).
use Rattle.std.specs.Prelude.{ℕ, ◌-◌, ◌/◌, ◌%◌, ◌^◌, Bool, eqb}

-- `width` bits of w from bit `low` up
abbrev pub bits : (low width : ℕ) → ℕ → ℕ
bits low width w = w / 2 ^ low % 2 ^ width

abbrev pub bit : ℕ → ℕ → Bool
bit k w = eqb (bits k 1 w) 1

-- an address without its bit 0, as pcs and function starts are compared (RULES 1.4)
abbrev pub even : ℕ → ℕ
even a = a - a % 2
