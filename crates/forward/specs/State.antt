-- The state of a machine that runs a function: its registers, all of them, and the part of its memory that is lent as the stack.
use Rattle.std.specs.Prelude.{ℕ, ◌+◌, ◌≤◌, ◌<◌, ◌≡◌, ◌⊎◌, length, get_or}
use Rattle.lent.specs.Lent.{Lent}
use Rattle.machine.specs.declared.Regs.{Regs}

-- r0-r12 and d0-d31 are there
pub record Whole (g : Regs) : Type 0 where
  pub r : length g.r ≡ 13
  pub d : length g.d ≡ 32

pub record State : Type 0 where
  pub regs : Regs
  pub stack : Lent
  pub whole : Whole regs

-- all registers but SP and pc are the same
pub record SameRest (g h : Regs) : Type 0 where
  pub r : h.r ≡ g.r
  pub lr : h.lr ≡ g.lr
  pub d : h.d ≡ g.d

-- the same stretch of memory, in which the bytes outside the addresses from lo up to hi are the same
pub record Outside (lo hi : ℕ) (k k' : Lent) : Type 0 where
  pub base : k'.base ≡ k.base
  pub long : length k'.bytes ≡ length k.bytes
  pub same : (i : ℕ) → (k.base + i < lo) ⊎ (hi ≤ k.base + i) → get_or k'.bytes i 0 ≡ get_or k.bytes i 0
