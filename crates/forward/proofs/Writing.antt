-- One register written, and read again by its number.
-- Assumes nothing.
use Rattle.std.specs.Prelude.{if◌then◌else◌}
use Prim.Native.Nat.{ℕ, ◌+◌, ◌-◌, ◌≤◌, ◌<◌}
use mathlib.Core.Path.{◌≡◌, refl, ap, ◌∙◌, fun_ext}
use mathlib.Core.Bool.{Bool, true, false}
use mathlib.Core.Logic.{◌≢◌}
use lib.Dec.{ltb}
use lib.ListN.{get_or, set, length-set}
use lib.Seq.{get_or-set_same, get_or-set_other}
use native.Mathlib.Omega.{arith}
use borrow.Author.Tests.{eqb-false, ne_eqb, ltb-true, ltb-false}
use Rattle.machine.specs.Registers.{reg, set_reg, set_d}
use Rattle.machine.specs.declared.Regs.{Regs}
use Rattle.machine.proofs.Written.{reg_same, reg-other}
use Rattle.forward.specs.Registers.{value}
use Rattle.forward.specs.State.{Whole}
use Rattle.forward.proofs.Ops.{upd, upd-cases}

pub whole_reg : {g : Regs} (x v : ℕ) → Whole g → Whole (set_reg g x v)
whole_reg {g} x v w = record { r = length-set g.r x v ∙ w.r; d = w.d }

pub whole-d : {g : Regs} (x v : ℕ) → Whole g → Whole (set_d g x v)
whole-d {g} x v w = record { r = w.r; d = length-set g.d x v ∙ w.d }

-- an integer register or LR
written_r : (g : Regs) (x v y : ℕ) → Whole g → x < 15 → x ≢ 13 → y < 16 → reg (set_reg g x v) y ≡ upd (reg g) x v y
written_r g x v y w l n h =
    upd-cases (λ z. reg (set_reg g x v) y ≡ z) (reg g) x v y
    (λ e. rw e (reg_same g x v (λ q. omega (arith, w.r, eqb-false x 14 q)))) (reg-other g x y v)

pub value-reg : (g : Regs) (x v : ℕ) → Whole g → x < 15 → x ≢ 13 → value (set_reg g x v) ≡ upd (value g) x v
value-reg g x v w l n = fun_ext (λ y. go y (ltb y 16) refl)
  where
    go :
        (y : ℕ) (t : Bool) → ltb y 16 ≡ t
        → (if t then reg (set_reg g x v) y else get_or g.d (y - 16) 0) ≡ upd (λ z. if ltb z 16 then reg g z else get_or g.d (z - 16) 0) x v y
    go y true q = written_r g x v y w l n (ltb-true y 16 q) ∙ rw q refl
    go y false q = let ne : y ≢ x = λ e. omega (arith, ltb-false y 16 q) in rw (q, ne_eqb y x ne) refl

pub value-d : (g : Regs) (x v : ℕ) → Whole g → x < 32 → value (set_d g x v) ≡ upd (value g) (16 + x) v
value-d g x v w l = fun_ext (λ y. go y (ltb y 16) refl)
  where
    far : (y : ℕ) → 16 ≤ y → get_or (set g.d x v) (y - 16) 0 ≡ upd (λ z. get_or g.d (z - 16) 0) (16 + x) v y
    far y h =
        upd-cases (λ z. get_or (set g.d x v) (y - 16) 0 ≡ z) (λ z. get_or g.d (z - 16) 0) (16 + x) v y
        (λ e. ap (λ i. get_or (set g.d x v) i 0) (let z : y - 16 ≡ x = omega arith in z) ∙ get_or-set_same g.d x v 0 (omega (arith, w.d)))
        (λ e. get_or-set_other g.d x (y - 16) v 0 (λ q. e (omega arith)))

    go :
        (y : ℕ) (t : Bool) → ltb y 16 ≡ t
        → (if t then reg g y else get_or (set g.d x v) (y - 16) 0) ≡ upd (λ z. if ltb z 16 then reg g z else get_or g.d (z - 16) 0) (16 + x) v y
    go y true q = let ne : y ≢ 16 + x = λ e. omega (arith, ltb-true y 16 q) in rw (q, ne_eqb y (16 + x) ne) refl
    go y false q = far y (ltb-false y 16 q) ∙ rw q refl
