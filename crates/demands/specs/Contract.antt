-- The contract of a public operation, as whoever calls it learns it, and what is claimed of each: it asks nothing, it gives the reader's
-- answer, and it allows one result (RULES 10.22).
use Rattle.std.specs.Prelude.{ℕ, ◌≡◌, List}
use contract.Lifetimes.{Lfts}
use borrow.Fn.Kinds.{ParamKind, ResultKind, Dens, In, Out, ended_of, res_t}
use denote.Triple.Clauses.{AtExit}

-- a function's contract: what it asks of the arguments, which any arguments meet; what it allows of the arguments, the result and the
-- parameters at exit; and what it was lent to write to
pub record Contract : Type 4 where
  pub lifetimes : ℕ
  pub params : List (ParamKind lifetimes)
  pub result : ResultKind lifetimes
  pub asks : In lifetimes params
  pub free : (κs : Lfts lifetimes) (a : Dens κs params) → asks κs a
  pub allows : Out lifetimes params result
  pub Left : Type 0
  pub left : (κs : Lfts lifetimes) → AtExit (ended_of lifetimes params result) κs → Left

-- it allows one result, and one thing left, of the arguments
abbrev pub Gives : (c : Contract) → ((κs : Lfts c.lifetimes) → Dens κs c.params → (res_t c.result κs).Denot) → ((κs : Lfts c.lifetimes) → Dens κs c.params → c.Left) → Type 0
Gives c f g =
    (κs : Lfts c.lifetimes) (a : Dens κs c.params) (z : (res_t c.result κs).Denot) (e : AtExit (ended_of c.lifetimes c.params c.result) κs)
    → c.allows κs a z e
    → (z ≡ f κs a) × (c.left κs e ≡ g κs a)

-- any two results that it allows for the same arguments coincide, with what they leave
abbrev pub Unique : Contract → Type 0
Unique c =
    (κs : Lfts c.lifetimes) (a : Dens κs c.params) (z z' : (res_t c.result κs).Denot) (e e' : AtExit (ended_of c.lifetimes c.params c.result) κs)
    → c.allows κs a z e
    → c.allows κs a z' e'
    → (z ≡ z') × (c.left κs e ≡ c.left κs e')
