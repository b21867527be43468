-- An epilogue among a record's: which scope lists it, and where no epilogue is.
use Rattle.std.specs.Prelude.{ℕ, ◌+◌, ◌≤◌, ◌<◌, ◌⊎◌, List, [], ◌∷◌}
use Rattle.unwinding.specs.View.{EpilogueOf}
use Rattle.unwinding.specs.declared.Scope.{Scope}

-- the epilogue is the one that the scope lists
pub data Of {C : Type 0} (sc : Scope) (ex : EpilogueOf C) : List Scope → List (EpilogueOf C) → Type 0 where
  here : {scs : List Scope} {exs : List (EpilogueOf C)} → Of sc ex (sc ∷ scs) (ex ∷ exs)
  later : {a : Scope} {b : EpilogueOf C} {scs : List Scope} {exs : List (EpilogueOf C)} → Of sc ex scs exs → Of sc ex (a ∷ scs) (b ∷ exs)

-- the offset is in none of the epilogues
abbrev pub InNone : {C : Type 0} → (offset : ℕ) → List (EpilogueOf C) → Type 0
InNone o [] = Unit {0}
InNone o (ex ∷ exs) = ((o < ex.start) ⊎ (ex.start + ex.size ≤ o)) × InNone o exs
