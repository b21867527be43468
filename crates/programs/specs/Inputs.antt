-- A report that was taken stands at the buffer's start.
use Rattle.std.specs.Prelude.{ℕ, List}
use Rattle.std.specs.Counts.{IsPrefixLen}
use Rattle.programs.specs.declared.Input.{Input}
use Rattle.programs.specs.declared.Input.TheVariants.{Report, Cut, End}

abbrev pub Fits : Input → (buffer : List ℕ) → Type 0
Fits (Report n) buffer = IsPrefixLen n buffer
Fits Cut buffer = Unit {0}
Fits End buffer = Unit {0}
