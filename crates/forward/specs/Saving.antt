-- What a code's instruction saves on the stack, and by how much it lowers SP (RULES 10.9 to 10.11); what the instructions of a code list
-- have saved.
use Rattle.std.specs.Prelude.{ℕ, zero, suc, ◌+◌, ◌-◌, ◌≡◌, ◌⊎◌, List, [], ◌∷◌, ◌++◌, if◌then◌else◌}
use Rattle.words.specs.Bits.{bit}
use Rattle.words.specs.Units.{stack_bytes}
use Rattle.codes.specs.declared.Code.{Code}
use Rattle.codes.specs.declared.Undo.{Undo}
use Rattle.codes.specs.declared.Undo.TheVariants.{Up, Pop, SpFrom, Vpop, LoadLr, Nothing}
use Rattle.forward.specs.Registers.{width}

-- the registers of a list with numbers below n, the lowest first
abbrev pub listed : (list n : ℕ) → List ℕ
listed l zero = []
listed l (suc n) = listed l n ++ (if bit n l then n ∷ [] else [])

-- n numbers from x up
abbrev pub upward : (x n : ℕ) → List ℕ
upward x zero = []
upward x (suc n) = upward x n ++ ((x + n) ∷ [])

-- the registers that a code loads, the first from the lowest address: its instruction saves them
abbrev pub saves : Undo → List ℕ
saves (Up n) = []
saves (Pop l) = listed l 15
saves (SpFrom x) = []
saves (Vpop s e) = upward (16 + s) (e + 1 - s)
saves (LoadLr n) = 14 ∷ []
saves Nothing = []

abbrev pub bytes : List ℕ → ℕ
bytes [] = 0
bytes (x ∷ xs) = width x + bytes xs

-- the bytes by which SP falls
abbrev pub falls : Undo → ℕ
falls (Up n) = stack_bytes n
falls (Pop l) = bytes (saves (Pop l))
falls (SpFrom x) = 0
falls (Vpop s e) = bytes (saves (Vpop s e))
falls (LoadLr n) = stack_bytes n
falls Nothing = 0

abbrev pub Among : ℕ → List ℕ → Type 0
Among x [] = ⊥
Among x (y ∷ ys) = (x ≡ y) ⊎ Among x ys

-- the instructions of these codes saved register x
abbrev pub Saved : List Code → ℕ → Type 0
Saved [] x = ⊥
Saved (c ∷ cs) x = Among x (saves c.undo) ⊎ Saved cs x

-- one of them copied SP to rX, and x is its number (RULES 10.12)
abbrev pub IsRX : Undo → ℕ → Type 0
IsRX (Up n) x = ⊥
IsRX (Pop l) x = ⊥
IsRX (SpFrom y) x = x ≡ y
IsRX (Vpop s e) x = ⊥
IsRX (LoadLr n) x = ⊥
IsRX Nothing x = ⊥

abbrev pub RX : List Code → ℕ → Type 0
RX [] x = ⊥
RX (c ∷ cs) x = IsRX c.undo x ⊎ RX cs x
