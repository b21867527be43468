-- One register written, and read again by its number.
-- Assumes nothing.
use Prim.Native.Nat.{ℕ, ◌<◌}
use mathlib.Core.Path.{◌≡◌, refl, sym, ◌∙◌}
use mathlib.Core.Bool.{Bool, true, false}
use mathlib.Core.Logic.{◌≢◌}
use lib.Dec.{eqb}
use lib.ListN.{length}
use lib.Seq.{get_or-set_same, get_or-set_other}
use borrow.Author.Tests.{ne_eqb, eqb-true}
use Rattle.machine.specs.Registers.{reg, set_reg}
use Rattle.machine.specs.declared.Regs.{Regs}

-- a register that has a place: r0-r12 or LR
abbrev pub Placed : Regs → ℕ → Type 0
Placed g x = (eqb x 14 ≡ false → x < length g.r)

-- it holds the word, and another register keeps what it had
pub reg_same : (g : Regs) (x w : ℕ) → Placed g x → reg (set_reg g x w) x ≡ w
reg_same g x w p = go (eqb x 14) refl
  where
    go : (t : Bool) → eqb x 14 ≡ t → reg (set_reg g x w) x ≡ w
    go true e = rw e refl
    go false e = rw e (get_or-set_same g.r x w 0 (p e))

pub reg-other : (g : Regs) (x y w : ℕ) → y ≢ x → reg (set_reg g x w) y ≡ reg g y
reg-other g x y w n = go (eqb y 14) refl
  where
    go : (t : Bool) → eqb y 14 ≡ t → reg (set_reg g x w) y ≡ reg g y
    go true e = rw (e, ne_eqb x 14 (λ (q : x ≡ 14). n (eqb-true y 14 e ∙ sym q))) refl
    go false e = rw e (get_or-set_other g.r x y w 0 n)
