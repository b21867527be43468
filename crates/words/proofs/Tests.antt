-- Tests joined by `&&`, `||` and `if`, by what their parts say.
-- Assumes nothing.
use Rattle.std.specs.Prelude.{if◌then◌else◌}
use Prim.Native.Nat.{ℕ, ◌≤◌, ◌<◌}
use mathlib.Core.Path.{◌≡◌, refl, sym, ◌∙◌}
use mathlib.Core.Bool.{Bool, true, false, ◌&&◌, ◌||◌}
use mathlib.Core.Logic.{◌⊎◌, ⊎_elim}
use lib.Dec.{T, leb}
use borrow.Author.Tests.{le-leb, lt-leb, leb-true, leb-false}
use native.Mathlib.Omega.{arith}

pub and-true : {a : Bool} (b : Bool) → a ≡ true → b ≡ (a && b)
and-true b h = rw h refl

pub and-false : {a : Bool} (b : Bool) → a ≡ false → false ≡ (a && b)
and-false b h = rw h refl

pub or-true : {a : Bool} (b : Bool) → a ≡ true → true ≡ (a || b)
or-true b h = rw h refl

pub or-false : {a : Bool} (b : Bool) → a ≡ false → b ≡ (a || b)
or-false b h = rw h refl

pub if-true : {A : Type 0} {b : Bool} (x y : A) → b ≡ true → x ≡ (if b then x else y)
if-true x y h = rw h refl

pub if-false : {A : Type 0} {b : Bool} (x y : A) → b ≡ false → y ≡ (if b then x else y)
if-false x y h = rw h refl

-- where the two ways of an `&&` or an `||` meet, the flag is the second test's or still the first's
module _ {A B : Type 0} {a b f p : Bool} (came : A ⊎ B) (e : a ≡ p) where
  pub and-joined : (A → (a ≡ true) × (f ≡ b)) → (B → (a ≡ false) × (f ≡ a)) → f ≡ (p && b)
  and-joined g h = ⊎_elim (λ w. (g w).1 ∙ and-true b (sym e ∙ (g w).0)) (λ w. (h w).1 ∙ (h w).0 ∙ and-false b (sym e ∙ (h w).0)) came

  pub or-joined : (A → (a ≡ true) × (f ≡ a)) → (B → (a ≡ false) × (f ≡ b)) → f ≡ (p || b)
  or-joined g h = ⊎_elim (λ w. (g w).1 ∙ (g w).0 ∙ or-true b (sym e ∙ (g w).0)) (λ w. (h w).1 ∙ or-false b (sym e ∙ (h w).0)) came

-- where two tests hold together, each does
pub both : (a b : Bool) → (a && b) ≡ true → (a ≡ true) × (b ≡ true)
both true b h = (refl, h)
both false b h = absurd (let z : ◌≡◌ {A = ℕ} 0 1 = cc in omega arith)

-- the same of tests as facts
pub T-both : (a b : Bool) → T (a && b) → T a × T b
T-both true b t = (tt, t)
T-both false b t = absurd t

pub T_and : (a b : Bool) → T a → T b → T (a && b)
T_and true b s t = t
T_and false b s t = s

-- two tests are one where each gives the other
pub T-same : (a b : Bool) → (T a → T b) → (T b → T a) → a ≡ b
T-same true true f g = refl
T-same true false f g = absurd (f tt)
T-same false true f g = absurd (g tt)
T-same false false f g = refl

-- a test is another where its outcome is
pub leb-same : (a b c d : ℕ) → (a ≤ b → c ≤ d) → (b < a → d < c) → leb a b ≡ leb c d
leb-same a b c d f g = go (leb a b) refl
  where
    go : (t : Bool) → leb a b ≡ t → leb a b ≡ leb c d
    go true e = e ∙ sym (le-leb c d (f (leb-true a b e)))
    go false e = e ∙ sym (lt-leb c d (g (leb-false a b e)))
