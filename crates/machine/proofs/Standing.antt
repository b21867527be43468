-- Where SP may stand.
-- Assumes nothing.
use Prim.Native.Nat.{ℕ, ◌%◌, ◌^◌, ◌≤◌, ◌<◌}
use mathlib.Core.Path.{◌≡◌}
use mathlib.Core.Bool.{true, ◌&&◌}
use lib.Dec.{leb, ltb, eqb}
use borrow.Author.Tests.{leb-true, ltb-true, eqb-true}
use Rattle.lent.specs.Lent.{Lent, end}
use Rattle.machine.specs.Step.{stands}
use Rattle.words.proofs.Tests.{both}

pub record Stands (k : Lent) (a : ℕ) : Type 0 where
  pub aligned : a % 4 ≡ 0
  pub above : k.base ≤ a
  pub below : a ≤ end k
  pub small : a < 2 ^ 32

pub stands-true : (k : Lent) (a : ℕ) → stands k a ≡ true → Stands k a
stands-true k a e =
    let x = both (eqb (a % 4) 0 && leb k.base a && leb a (end k)) (ltb a (2 ^ 32)) e in
    let y = both (eqb (a % 4) 0 && leb k.base a) (leb a (end k)) x.0 in
    let z = both (eqb (a % 4) 0) (leb k.base a) y.0 in
    record { aligned = eqb-true _ _ z.0; above = leb-true _ _ z.1; below = leb-true _ _ y.1; small = ltb-true _ _ x.1 }
