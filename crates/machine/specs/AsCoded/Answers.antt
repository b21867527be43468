-- What is loaded for a d register, and registers that are undone in place: what then stands where.
use Rattle.std.specs.Prelude.{ℕ, ◌+◌, ◌*◌, ◌^◌, List, Ok}
use Rattle.lent.specs.Lent.{Lent}
use Rattle.words.specs.Answer.{Res, ◌>>=◌}
use Rattle.machine.specs.Step.{load}
use Rattle.machine.specs.declared.Regs.{Regs}

-- the two words at an address, the lower first
abbrev pub load_two : Lent → ℕ → Res ℕ
load_two k a = do
  low ← load k a
  high ← load k (a + 4)
  Ok (low + 2 ^ 32 * high)

-- registers from their parts
abbrev pub regs : (r : List ℕ) (sp lr pc : ℕ) (d : List ℕ) → Regs
regs r sp lr pc d = record { r = r; sp = sp; lr = lr; pc = pc; d = d }

-- the registers as they then stand, by what was given beside the lists, or the refusal
abbrev pub came : {A : Type 0} → Res A → (A → Regs) → Res Regs
came x f = x >>= λ a. Ok (f a)
