-- The one view that every record, packed or full, is brought to. All amounts are bytes.
use Rattle.std.specs.Prelude.{ℕ, ◌-◌, List, Bool}
use Rattle.unwinding.specs.declared.Scope.{Scope}
use Rattle.unwinding.specs.declared.Start.{Start}
use Rattle.unwinding.specs.declared.Start.TheVariants.{From, Ending}

pub record Shape : Type 0 where
  -- the function's length
  pub span : ℕ
  -- the code bytes
  pub codes : List ℕ
  -- there is no prologue: F=1 (RULES 2.7) or Flag 2 (RULES 2.2)
  pub fragment : Bool
  pub scopes : List Scope
  -- the handler's RVA, 0 if none
  pub handler : ℕ

-- where an epilogue of this size starts in a function of this length (RULES 5.4)
abbrev pub start_of : Start → (span size : ℕ) → ℕ
start_of (From a) span size = a
start_of Ending span size = span - size
