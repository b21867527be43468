-- What it means that an instruction is the one of its code, in a prologue, in an epilogue, and last before FF; and what FD's and FE's do.
-- Assumes nothing.
use Prim.Native.Nat.{ℕ}
use mathlib.Core.Path.{◌≡◌, subst}
use mathlib.Core.List.{List}
use Rattle.words.specs.Bits.{even}
use Rattle.words.specs.Units.{halfword_bytes}
use Rattle.thumb.specs.Instruction.{instruction_at}
use Rattle.thumb.specs.declared.Action.{Action}
use Rattle.comparing.specs.Items.{leaves, item}
use Rattle.fitting.specs.Exactly.{Stands}
use Rattle.forward.specs.State.{State}
use Rattle.executing.specs.Manual.{Keeps, Acts, Next, Executes}
use Rattle.executing.specs.Claims.{Means}
use Rattle.executing.proofs.Table.{is_known}
use Rattle.executing.proofs.Opening.{does-of, opened}
use Rattle.executing.proofs.Closing.{undoes-of, closed}
use Rattle.executing.proofs.Lasting.{returning}

module _ (s : List ℕ) (o : ℕ) (a b : State) (x : Executes (instruction_at s o) a b) where
  -- what was executed is what the instruction does
  acts-as : (t : Action) → (instruction_at s o).action ≡ t → Acts t a b
  acts-as t e = subst (λ y. Acts y a b) e x.does

  next-as : (t : Action) → (instruction_at s o).action ≡ t → Next t (halfword_bytes (instruction_at s o).size) a b
  next-as t e = subst (λ y. Next y (halfword_bytes (instruction_at s o).size) a b) e x.next

  by-fd : Stands (item s o (leaves 2)) → Keeps a b × (b.regs.pc ≡ even a.regs.lr)
  by-fd h = (acts-as _ h.does, next-as _ h.does)

  by-fe : Stands (item s o (leaves 4)) → Keeps a b
  by-fe h = acts-as _ h.does

pub means : Means
means = record {
  opens = λ c i before fine s o a b h x low high m.
      does-of before c.code.undo a b i.acts fine (opened c (is_known i) s o a b h x) low high m;
  closes = λ c i s o a b h x low. let k = is_known i in undoes-of c.code.undo a b i.acts k.sound (closed c k s o a b h x) low;
  lasts = λ c i s o a b h x low.
      returning c.code.undo (instruction_at s o).action (halfword_bytes (instruction_at s o).size) a b i.acts (is_known i).sound h.does x.does x.next low;
  leaves = λ s o a b. (λ h x. by-fd s o a b x h, λ h x. by-fe s o a b x h);
}
