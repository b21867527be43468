-- Chains of tests and answers: how they group, and that where one gives an answer, each part of it did.
-- Assumes nothing.
use Rattle.std.specs.Prelude.{Ok, Err}
use Prim.Native.Nat.{ℕ}
use mathlib.Core.Path.{◌≡◌, refl}
use mathlib.Core.Bool.{Bool, true, false}
use native.Mathlib.Omega.{arith}
use Rattle.words.specs.declared.Refusal.{Refusal}
use Rattle.words.specs.Answer.{Res, ◌>>=◌, ◌>>◌, need}

pub bind_ok : {A B : Type 0} (x : Res A) (f : A → Res B) (b : B) → (x >>= f) ≡ Ok b → (a : A) × (x ≡ Ok a) × (f a ≡ Ok b)
bind_ok (Ok a) f b h = (a, refl, h)
bind_ok (Err r) f b h = absurd (let z : ◌≡◌ {A = ℕ} 0 1 = cc in omega arith)

pub need-ok : {B : Type 0} (t : Bool) (r : Refusal) (y : Res B) (b : B) → (need t r >> y) ≡ Ok b → (t ≡ true) × (y ≡ Ok b)
need-ok true r y b h = (refl, h)
need-ok false r y b h = absurd (let z : ◌≡◌ {A = ℕ} 0 1 = cc in omega arith)

-- an answer goes on through two steps as through one
pub bind_assoc :
    {A B C : Type 0} (x : Res A) (f : A → Res B) (g : B → Res C) → (x >>= f >>= g) ≡ (x >>= λ a. f a >>= g)
bind_assoc (Ok a) f g = refl
bind_assoc (Err r) f g = refl

pub bind-same :
    {A B : Type 0} (x : Res A) (f g : A → Res B) → ((a : A) → f a ≡ g a) → (x >>= f) ≡ (x >>= g)
bind-same (Ok a) f g h = h a
bind-same (Err r) f g h = refl

pub ok_same : {A : Type 0} (a b : A) → ◌≡◌ {A = Res A} (Ok a) (Ok b) → a ≡ b
ok_same a b h = cc
