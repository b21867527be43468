-- What stands at an offset of a record, to write examples down.
use Rattle.std.specs.Prelude.{Ok}
use Prim.Native.Nat.{ℕ}
use mathlib.Core.List.{List}
use Rattle.words.specs.declared.Place.{Place}
use Rattle.words.specs.Answer.{Res, ◌>>=◌}
use Rattle.unwinding.specs.Shape.{Shape}
use Rattle.unwinding.specs.View.{view}
use Rattle.unwinding.specs.Todo.{Todo, todo}
use Rattle.codes.specs.declared.Code.{Code}
use Rattle.codes.specs.Code.{size, codes_at}
use Rattle.codes.specs.Condition.{executing}

-- the place of an offset in a record, and the codes that run there
abbrev pub at : Res Shape → ℕ → Res (Todo Code)
at s o = s >>= λ s. view size codes_at s >>= λ v. todo size executing v o

abbrev pub says : Place → List Code → Res (Todo Code)
says p l = Ok (record { place = p; codes = l })
