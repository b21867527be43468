-- What the body keeps of the state that the whole prologue left (RULES 10.15, 10.16).
use Rattle.std.specs.Prelude.{ℕ, ◌+◌, ◌%◌, ◌≤◌, ◌≡◌, ◌⊎◌, List, [], ◌∷◌, length}
use Rattle.lent.specs.Lent.{Lent}
use Rattle.codes.specs.declared.Code.{Code}
use Rattle.codes.specs.declared.Undo.{Undo}
use Rattle.codes.specs.declared.Undo.TheVariants.{Up, Pop, SpFrom, Vpop, LoadLr, Nothing}
use Rattle.forward.specs.Registers.{value, width, held, Lasting}
use Rattle.forward.specs.Saving.{saves, falls, Saved, RX}
use Rattle.forward.specs.State.{State}

-- of the registers saved from an address up, those that are asked for are held as before
abbrev pub Holds : (ℕ → Type 0) → (before now : Lent) → (at : ℕ) → List ℕ → Type 0
Holds of k k' a [] = Unit {0}
Holds of k k' a (x ∷ xs) = (of x → held k' a x ≡ held k a x) × Holds of k k' (a + width x) xs

-- and so for each of these codes, the first of which undoes what stands from the address up
abbrev pub Words : (ℕ → Type 0) → (before now : Lent) → (at : ℕ) → List Code → Type 0
Words of k k' a [] = Unit {0}
Words of k k' a (c ∷ cs) = Holds of k k' a (saves c.undo) × Words of k k' (a + falls c.undo) cs

-- the registers whose saved values must stay where they stand: rX, and those that last
abbrev pub Wanted : List Code → ℕ → Type 0
Wanted cs x = RX cs x ⊎ Lasting x

-- SP in the body (RULES 10.16): as the prologue left it; but if that ended with the copy to rX, any multiple of 4 from the stack's base
-- up to there
abbrev pub SpAfter : Undo → (base left now : ℕ) → Type 0
SpAfter (Up n) base a b = b ≡ a
SpAfter (Pop l) base a b = b ≡ a
SpAfter (SpFrom x) base a b = (b % 4 ≡ 0) × (base ≤ b) × (b ≤ a)
SpAfter (Vpop s e) base a b = b ≡ a
SpAfter (LoadLr n) base a b = b ≡ a
SpAfter Nothing base a b = b ≡ a

abbrev pub SpIn : List Code → (base left now : ℕ) → Type 0
SpIn [] base a b = b ≡ a
SpIn (c ∷ cs) base a b = SpAfter c.undo base a b

-- all that is asked of the body: saved values, SP, rX, and what lasts and was not saved
pub record Body (cs : List Code) (s t : State) : Type 0 where
  pub base : t.stack.base ≡ s.stack.base
  pub long : length t.stack.bytes ≡ length s.stack.bytes
  pub words : Words (Wanted cs) s.stack t.stack s.regs.sp cs
  pub sp : SpIn cs s.stack.base s.regs.sp t.regs.sp
  pub r_x : (x : ℕ) → RX cs x → value t.regs x ≡ value s.regs x
  pub unsaved : (x : ℕ) → Lasting x → (Saved cs x → ⊥) → value t.regs x ≡ value s.regs x
