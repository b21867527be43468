-- What one code does to the registers, over the lent stack, with refusal 8 (RULES 3.2, 3.9 to 3.14).
use Rattle.std.specs.Prelude.{ℕ, zero, suc, ◌+◌, ◌-◌, ◌*◌, ◌%◌, ◌^◌, Bool, ◌&&◌, leb, ltb, eqb, if◌then◌else◌, Ok}
use Rattle.words.specs.Bits.{bit}
use Rattle.lent.specs.Lent.{Lent, end, holds, word_at}
use Rattle.words.specs.Units.{stack_bytes}
use Rattle.words.specs.declared.Refusal.TheVariants.{BadStack}
use Rattle.words.specs.Answer.{Res, ◌>>=◌, ◌>>◌, need}
use Rattle.codes.specs.declared.Code.{Code}
use Rattle.codes.specs.declared.Undo.{Undo}
use Rattle.codes.specs.declared.Undo.TheVariants.{Up, Pop, SpFrom, Vpop, LoadLr, Nothing}
use Rattle.machine.specs.Registers.{reg, set_reg, set_d, set_sp}
use Rattle.machine.specs.declared.Regs.{Regs}

-- SP may stand here: divisible by 4, from the stack's base up to its end (RULES 9.8). It has 32 bits, which a stack that passed 1 implies
abbrev pub stands : Lent → ℕ → Bool
stands k a = eqb (a % 4) 0 && leb k.base a && leb a (end k) && ltb a (2 ^ 32)

-- the word at an address, 8 unless all of it is lent (RULES 3.10)
unfoldable pub load : Lent → ℕ → Res ℕ
load k a = do
  need (holds k a 4) BadStack
  Ok (word_at k a)

-- a register, or a d register (the lower word first), from SP, and SP moves over it
unfoldable pub pop_reg : Lent → ℕ → Regs → Res Regs
pop_reg k x g = do
  w ← load k g.sp
  Ok (set_sp (set_reg g x w) (g.sp + 4))

unfoldable pub pop_d : Lent → ℕ → Regs → Res Regs
pop_d k x g = do
  low ← load k g.sp
  high ← load k (g.sp + 4)
  Ok (set_sp (set_d g x (low + 2 ^ 32 * high)) (g.sp + 8))

-- the registers of a list whose numbers are below n, by rising number (RULES 3.11)
unfoldable pub pop : Lent → (list n : ℕ) → Regs → Res Regs
pop k l zero g = Ok g
pop k l (suc n) g = pop k l n g >>= λ h. if bit n l then pop_reg k n h else Ok h

-- n d registers from number x up, by rising number (RULES 3.12)
unfoldable pub vpop : Lent → (x n : ℕ) → Regs → Res Regs
vpop k x zero g = Ok g
vpop k x (suc n) g = vpop k x n g >>= λ h. pop_d k (x + n) h

abbrev pub effect : Lent → Undo → Regs → Res Regs
effect k (Up n) g = Ok (set_sp g (g.sp + stack_bytes n))
effect k (Pop l) g = pop k l 15 g
effect k (SpFrom x) g = Ok (set_sp g (reg g x))
effect k (Vpop s e) g = vpop k s (e + 1 - s) g
effect k (LoadLr n) g = load k g.sp >>= λ w. Ok (set_sp (set_reg g 14 w) (g.sp + stack_bytes n))
effect k Nothing g = Ok g

-- one code, after which SP must stand in the stack (RULES 3.9)
unfoldable pub step : Lent → Code → Regs → Res Regs
step k c g = do
  h ← effect k c.undo g
  need (stands k h.sp) BadStack
  Ok h
