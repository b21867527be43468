-- The condition under which an epilogue executes (RULES 9.10).
use Rattle.std.specs.Prelude.{ℕ, Bool, eqb}

-- the condition of what always executes
abbrev pub always : ℕ
always = 0xE

-- 10 is for every other condition
abbrev pub executing : (condition : ℕ) → Bool
executing c = eqb c always
