-- An answer, or the first refusal met (RULES 9).
use Rattle.std.specs.Prelude.{Bool, true, false, Option, None, Some, Result, Ok, Err}
use Rattle.words.specs.declared.Refusal.{Refusal}

abbrev pub Res : Type 0 → Type 0
Res A = Result A Refusal

-- go on with the answer; a refusal stays
infixl 10 ◌>>=◌
abbrev pub ◌>>=◌ : {A B : Type 0} → Res A → (A → Res B) → Res B
◌>>=◌ (Ok a) f = f a
◌>>=◌ (Err r) f = Err r

infixl 10 ◌>>◌
abbrev pub ◌>>◌ : {A B : Type 0} → Res A → Res B → Res B
◌>>◌ (Ok a) rest = rest
◌>>◌ (Err r) rest = Err r

-- go on only where the test holds
abbrev pub need : Bool → Refusal → Res (Unit {0})
need true r = Ok tt
need false r = Err r

-- by cases on an answer, and on what may be missing
abbrev pub either : {A B : Type 0} → Res A → (Refusal → B) → (A → B) → B
either (Ok a) bad good = good a
either (Err r) bad good = bad r

abbrev pub maybe : {A B : Type 0} → Option A → B → (A → B) → B
maybe None b f = b
maybe (Some a) b f = f a

-- that an answer was given, or the refusal
abbrev pub verdict : {A : Type 0} → Res A → Res (Unit {0})
verdict (Ok a) = Ok tt
verdict (Err r) = Err r

-- the answer, or what a refusal gives in its place
abbrev pub or_else : {A : Type 0} → Res A → A → A
or_else (Ok a) other = a
or_else (Err r) other = other
