-- Reading and writing one register of RULES 1.1. Integer registers go by number, LR as 14; SP and pc have no number here.
use Rattle.std.specs.Prelude.{ℕ, get_or, set, eqb, if◌then◌else◌}
use Rattle.machine.specs.declared.Regs.{Regs}

abbrev pub reg : Regs → ℕ → ℕ
reg g k = if eqb k 14 then g.lr else get_or g.r k 0

abbrev pub set_reg : Regs → ℕ → ℕ → Regs
set_reg g k v = record { r = set g.r k v; sp = g.sp; lr = if eqb k 14 then v else g.lr; pc = g.pc; d = g.d }

abbrev pub set_d : Regs → ℕ → ℕ → Regs
set_d g k v = record { r = g.r; sp = g.sp; lr = g.lr; pc = g.pc; d = set g.d k v }

abbrev pub set_sp : Regs → ℕ → Regs
set_sp g v = record { r = g.r; sp = v; lr = g.lr; pc = g.pc; d = g.d }

abbrev pub set_pc : Regs → ℕ → Regs
set_pc g v = record { r = g.r; sp = g.sp; lr = g.lr; pc = v; d = g.d }
