-- What holds of each code of a list, and so of each of its parts.
-- Assumes nothing.
use Prim.Native.Nat.{ℕ, ◌<◌}
use mathlib.Core.List.{List, [], ◌∷◌, ◌++◌}

module _ {C : Type 0} (P : C → Type 0) where
  abbrev pub All : List C → Type 0
  All [] = Unit {0}
  All (c ∷ cs) = P c × All cs

  pub all-front : (a b : List C) → All (a ++ b) → All a
  all-front [] b h = tt
  all-front (c ∷ a) b h = (h.0, all-front a b h.1)

  pub all_end : (a b : List C) → All (a ++ b) → All b
  all_end [] b h = h
  all_end (c ∷ a) b h = all_end a b h.1

-- each code has an instruction
abbrev pub Sized : {C : Type 0} → (C → ℕ) → List C → Type 0
Sized size cs = All (λ c. 0 < size c) cs
