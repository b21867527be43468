-- A code is refused by nothing but the stack, number 8 (RULES 3.9, 3.10).
-- Assumes nothing.
use Rattle.std.specs.Prelude.{if◌then◌else◌, Ok, Err}
use Prim.Native.Nat.{ℕ, zero, suc, ◌+◌, ◌-◌}
use mathlib.Core.Path.{◌≡◌, refl, subst}
use mathlib.Core.Bool.{Bool, true, false}
use Rattle.words.specs.Bits.{bit}
use Rattle.words.specs.declared.Refusal.{Refusal}
use Rattle.words.specs.declared.Refusal.TheVariants.{BadStack}
use Rattle.words.specs.Answer.{Res, ◌>>=◌, ◌>>◌, need}
use Rattle.lent.specs.Lent.{Lent, holds}
use Rattle.codes.specs.declared.Code.{Code}
use Rattle.codes.specs.declared.Undo.{Undo}
use Rattle.codes.specs.declared.Undo.TheVariants.{Up, Pop, SpFrom, Vpop, LoadLr, Nothing}
use Rattle.machine.specs.Step.{stands, load, pop_reg, pop_d, pop, vpop, effect, step}
use Rattle.machine.specs.declared.Regs.{Regs}

abbrev Only : {A : Type 0} → Res A → Type 0
Only (Ok a) = Unit {0}
Only (Err r) = r ≡ BadStack

bound : {A B : Type 0} (x : Res A) (f : A → Res B) → Only x → ((a : A) → Only (f a)) → Only (x >>= f)
bound (Ok a) f h g = g a
bound (Err r) f h g = h

needed : {A : Type 0} (b : Bool) (y : Res A) → Only y → Only (need b BadStack >> y)
needed true y h = h
needed false y h = refl

module _ (k : Lent) where
  load-only : (a : ℕ) → Only (load k a)
  unfolding load
  load-only a = needed (holds k a 4) _ tt

  listed-only : (b : Bool) (x : ℕ) (h : Regs) → Only (if b then pop_reg k x h else Ok h)
  unfolding pop_reg
  listed-only true x h = bound (load k h.sp) _ (load-only h.sp) (λ w. tt)
  listed-only false x h = tt

  pop-only : (l n : ℕ) (g : Regs) → Only (pop k l n g)
  unfolding pop
  pop-only l zero g = tt
  pop-only l (suc n) g = bound (pop k l n g) _ (pop-only l n g) (λ h. listed-only (bit n l) n h)

  d-only : (x : ℕ) (h : Regs) → Only (pop_d k x h)
  unfolding pop_d
  d-only x h = bound (load k h.sp) _ (load-only h.sp) (λ w. bound (load k (h.sp + 4)) _ (load-only (h.sp + 4)) (λ v. tt))

  vpop-only : (x n : ℕ) (g : Regs) → Only (vpop k x n g)
  unfolding vpop
  vpop-only x zero g = tt
  vpop-only x (suc n) g = bound (vpop k x n g) _ (vpop-only x n g) (λ h. d-only (x + n) h)

  effect-only : (u : Undo) (g : Regs) → Only (effect k u g)
  effect-only (Up n) g = tt
  effect-only (Pop l) g = pop-only l 15 g
  effect-only (SpFrom x) g = tt
  effect-only (Vpop s e) g = vpop-only s (e + 1 - s) g
  effect-only (LoadLr n) g = bound (load k g.sp) _ (load-only g.sp) (λ w. tt)
  effect-only Nothing g = tt

  step-only : (c : Code) (g : Regs) → Only (step k c g)
  unfolding step
  step-only c g = bound (effect k c.undo g) _ (effect-only c.undo g) (λ h. needed (stands k h.sp) _ tt)

  pub step-refused : (c : Code) (g : Regs) (r : Refusal) → step k c g ≡ Err r → r ≡ BadStack
  step-refused c g r e = subst Only e (step-only c g)
