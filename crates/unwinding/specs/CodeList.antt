-- Code lists of any machine: their instructions' sizes (RULES 3.7), the end of a list that is still to be undone, and running a list.
use Rattle.std.specs.Prelude.{ℕ, ◌+◌, List, [], ◌∷◌, eqb, if◌then◌else◌, Option, None, Some, Ok}
use Rattle.words.specs.Answer.{Res, ◌>>=◌}

-- the codes before an end code, and the size of the end code's instruction
pub record Codes (C : Type 0) : Type 0 where
  pub list : List C
  pub end_size : ℕ

module _ {C : Type 0} (size : C → ℕ) where
  unfoldable pub total : List C → ℕ
  total [] = 0
  total (c ∷ cs) = size c + total cs

  -- the end of the list whose sizes, with `after` more, add up to n
  unfoldable pub end_of : (after n : ℕ) → List C → Option (List C)
  end_of after n [] = if eqb after n then Some [] else None
  end_of after n (c ∷ cs) = if eqb (total (c ∷ cs) + after) n then Some (c ∷ cs) else end_of after n cs

-- running a list: the code at its front, and on what that left the others (RULES 3.15)
unfoldable pub run : {C S : Type 0} → (C → S → Res S) → List C → S → Res S
run step [] s = Ok s
run step (c ∷ cs) s = step c s >>= λ t. run step cs t
