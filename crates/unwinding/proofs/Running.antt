-- Running code lists (RULES 3.15), on any machine: an empty list leaves all as it is; two lists in one are run as the first and, on what it
-- left, the second, however they are grouped; and the first refusal among both is that of the whole.
-- Assumes nothing.
use Rattle.std.specs.Prelude.{Ok, Err}
use mathlib.Core.Path.{◌≡◌, refl, ap}
use mathlib.Core.List.{List, ◌∷◌, ◌++◌, append_assoc, []}
use Rattle.words.specs.declared.Refusal.{Refusal}
use Rattle.words.specs.Answer.{Res, ◌>>=◌}
use Rattle.unwinding.specs.CodeList.{run}

module _ {C S : Type 0} (step : C → S → Res S) where
  pub run-empty : (s : S) → run step [] s ≡ Ok s
  unfolding run
  run-empty s = refl

  pub run_step : (c : C) (cs : List C) (s : S) → run step (c ∷ cs) s ≡ (step c s >>= λ t. run step cs t)
  unfolding run
  run_step c cs s = refl

  pub run-append : (a b : List C) (s : S) → run step (a ++ b) s ≡ (run step a s >>= λ t. run step b t)
  unfolding run
  run-append [] b s = refl
  run-append (c ∷ a) b s = go (step c s) (λ t. run-append a b t)
    where
      go :
          (x : Res S) → ((t : S) → run step (a ++ b) t ≡ (run step a t >>= λ u. run step b u))
          → (x >>= λ t. run step (a ++ b) t) ≡ (x >>= (λ t. run step a t) >>= λ t. run step b t)
      go (Ok t) ih = ih t
      go (Err r) ih = refl

  pub run-group : (a b c : List C) (s : S) → run step ((a ++ b) ++ c) s ≡ run step (a ++ (b ++ c)) s
  run-group a b c s = ap (λ l. run step l s) (append_assoc a b c)

  -- the first part's refusal is the joined list's, and where the first part runs the second's is
  pub run-refused-first : (a b : List C) (s : S) (r : Refusal) → run step a s ≡ Err r → run step (a ++ b) s ≡ Err r
  run-refused-first a b s r h = rw (run-append a b s, h) refl

  pub run-then : (a b : List C) (s t : S) → run step a s ≡ Ok t → run step (a ++ b) s ≡ run step b t
  run-then a b s t h = rw (run-append a b s, h) refl
