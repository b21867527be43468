-- Answers that stay: where one chain of tests and answers gives an answer, or refuses by something else than how much is lent, another
-- answers the same.
-- Assumes nothing.
use Rattle.std.specs.Prelude.{Ok, Err}
use mathlib.Core.Path.{◌≡◌, refl, sym, ◌∙◌}
use mathlib.Core.List.{List, [], ◌∷◌}
use mathlib.Core.Bool.{Bool, true, false, true≢false}
use Rattle.words.specs.Refusals.{number, verdict_number}
use Rattle.words.specs.declared.Refusal.{Refusal}
use Rattle.words.specs.Answer.{Res, ◌>>=◌, ◌>>◌, need}
use Rattle.unwinding.specs.CodeList.{run}
use Rattle.unwinding.specs.Extent.{of_extent}

abbrev pub Stays : {A : Type 0} → Res A → Res A → Type 0
Stays x y = of_extent (verdict_number x) ≡ false → y ≡ x

pub stays-given : {A : Type 0} (x y : Res A) (a : A) → Stays x y → x ≡ Ok a → y ≡ Ok a
stays-given x y a h e = h (rw e refl) ∙ e

pub stays-bind : {A B : Type 0} (x y : Res A) (f g : A → Res B) → Stays x y → ((a : A) → x ≡ Ok a → Stays (f a) (g a)) → Stays (x >>= f) (y >>= g)
stays-bind (Ok a) y f g h k e = rw (h refl) (k a refl e)
stays-bind (Err r) y f g h k e = rw (h e) refl

-- a test of how much is lent, which may turn true; and any other test, which is the same
pub stays-need : {B : Type 0} (s t : Bool) (r : Refusal) (x y : Res B) → of_extent (number r) ≡ true → (s ≡ true → t ≡ true) → (s ≡ true → Stays x y) → Stays (need s r >> x) (need t r >> y)
stays-need true t r x y o h k e = rw (h refl) (k refl e)
stays-need false t r x y o h k e = absurd (true≢false (sym o ∙ e))

pub stays-test : {B : Type 0} (s : Bool) (r : Refusal) (x y : Res B) → (s ≡ true → Stays x y) → Stays (need s r >> x) (need s r >> y)
stays-test true r x y k e = k refl e
stays-test false r x y k e = refl

pub stays-run : {C S : Type 0} (f g : C → S → Res S) → ((c : C) (s : S) → Stays (f c s) (g c s)) → (cs : List C) (s : S) → Stays (run f cs s) (run g cs s)
unfolding run
stays-run f g h [] s e = refl
stays-run f g h (c ∷ cs) s e = stays-bind (f c s) (g c s) (run f cs) (run g cs) (h c s) (λ t q. stays-run f g h cs t) e
