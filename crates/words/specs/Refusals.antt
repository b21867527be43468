-- The number of each refusal, R for that of RULES 9.R, and 0 where nothing is refused.
use Rattle.std.specs.Prelude.{ℕ, Result, Ok, Err}
use Rattle.words.specs.declared.Refusal.{Refusal}
use Rattle.words.specs.declared.Refusal.TheVariants.{UnfitInput, PcBelowBase, StartsNotAscending, Reserved, OutsideXdata, BadCodes, BadLayout, BadStack, InsideInstruction, Conditional, SpFell, NoRecord, SpSame, UnfitReport}

abbrev pub number : Refusal → ℕ
number UnfitInput = 1
number PcBelowBase = 2
number StartsNotAscending = 3
number Reserved = 4
number OutsideXdata = 5
number (BadCodes i) = 6
number BadLayout = 7
number BadStack = 8
number InsideInstruction = 9
number Conditional = 10
number SpFell = 11
number NoRecord = 12
number SpSame = 13
number UnfitReport = 14

abbrev pub verdict_number : {A : Type 0} → Result A Refusal → ℕ
verdict_number (Ok a) = 0
verdict_number (Err r) = number r
