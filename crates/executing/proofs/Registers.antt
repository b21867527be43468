-- Registers by their numbers: those that have the same value at each number are the same; and MOV, said so.
-- Assumes nothing.
use Prim.Native.Nat.{ℕ, ◌+◌, ◌<◌}
use mathlib.Core.Path.{◌≡◌, refl, sym, ◌∙◌}
use mathlib.Core.Bool.{Bool, true, false}
use mathlib.Core.Logic.{◌≢◌}
use lib.Dec.{eqb}
use lib.ListN.{get_or, get_or-eq_default}
use lib.Seq.{ext_get_or}
use native.Mathlib.Omega.{arith}
use borrow.Author.Tests.{lt-ltb, ne_eqb, eqb-true, eqb-false}
use Rattle.machine.specs.declared.Regs.{Regs}
use Rattle.forward.specs.Registers.{value}
use Rattle.forward.specs.State.{Whole, State, SameRest}
use Rattle.forward.proofs.Within.{value-d}
use Rattle.executing.specs.Manual.{all, Moves}

value-r : (g : Regs) (x : ℕ) → x < 13 → value g x ≡ get_or g.r x 0
value-r g x h = rw (lt-ltb x 16 (omega arith), ne_eqb x 14 (λ (q : x ≡ 14). omega arith)) refl

pub same_rest : {g h : Regs} → Whole g → Whole h → ((x : ℕ) → value h x ≡ value g x) → SameRest g h
same_rest {g} {h} w v e = record {
  r = ext_get_or 0 h.r g.r (v.r ∙ sym w.r)
      (λ i l. let z : i < 13 = omega (arith, v.r) in sym (value-r h i z) ∙ e i ∙ value-r g i z);
  lr = e 14;
  d = ext_get_or 0 h.d g.d (v.d ∙ sym w.d) (λ i l. sym (value-d h i) ∙ e (16 + i) ∙ value-d g i);
}

-- SP and pc have no value
none-13 : {g : Regs} → Whole g → value g 13 ≡ 0
none-13 {g} w = get_or-eq_default g.r 0 (omega (arith, w.r))

none-15 : {g : Regs} → Whole g → value g 15 ≡ 0
none-15 {g} w = get_or-eq_default g.r 0 (omega (arith, w.r))

-- another register is what it is
pub all-value : (g : Regs) (x : ℕ) → x ≢ 13 → x ≢ 15 → all g x ≡ value g x
all-value g x p q = rw (ne_eqb x 13 p, ne_eqb x 15 q) refl

-- MOV keeps all others
pub moved-rest : {to from : ℕ} {s t : State} → Moves to from s t → (x : ℕ) → x ≢ to → value t.regs x ≡ value s.regs x
moved-rest {to} {from} {s} {t} f x n = go (eqb x 13) (eqb x 15) refl refl
  where
    go : (a b : Bool) → eqb x 13 ≡ a → eqb x 15 ≡ b → value t.regs x ≡ value s.regs x
    go true b p q = rw (eqb-true x 13 p) (none-13 t.whole ∙ sym (none-13 s.whole))
    go false true p q = rw (eqb-true x 15 q) (none-15 t.whole ∙ sym (none-15 s.whole))
    go false false p q =
        let m : x ≢ 13 = eqb-false x 13 p in
        let k : x ≢ 15 = eqb-false x 15 q in
        sym (all-value t.regs x m k) ∙ f.rest x n k ∙ all-value s.regs x m k

-- to SP, it keeps all that has a value
pub moved-sp : {from : ℕ} {s t : State} → Moves 13 from s t → (x : ℕ) → value t.regs x ≡ value s.regs x
moved-sp {from} {s} {t} f x = go (eqb x 13) refl
  where
    go : (a : Bool) → eqb x 13 ≡ a → value t.regs x ≡ value s.regs x
    go true p = rw (eqb-true x 13 p) (none-13 t.whole ∙ sym (none-13 s.whole))
    go false p = moved-rest f x (eqb-false x 13 p)
