-- Whether a function's instructions are those that its record's codes stand for (RULES 13.9, 13.10).
use Rattle.std.specs.Prelude.{ℕ, List, [], ◌∷◌, ◌++◌, Bool, length, ltb, if◌then◌else◌, Result, Ok, Err}
use Rattle.words.specs.declared.Refusal.TheVariants.{UnfitInput}
use Rattle.words.specs.Refusals.{number}
use Rattle.words.specs.Answer.{either}
use Rattle.lent.specs.Lent.{Lent}
use Rattle.unwinding.specs.Shape.{Shape}
use Rattle.unwinding.specs.View.{EpilogueOf, View, view}
use Rattle.xdata.specs.Xdata.{fit_xdata}
use Rattle.record.specs.Record.{shape_at}
use Rattle.comparing.specs.Items.{Coded, size_of, coded_at, Item, prologue_items, epilogue_items, Compared, compared}
use Rattle.fitting.specs.declared.FitRefusal.{FitRefusal}
use Rattle.fitting.specs.declared.FitRefusal.TheVariants.{Record, Short, Differs}

-- that a record fits, or why not
abbrev pub Fitted : Type 0
Fitted = Result (Unit {0}) FitRefusal

-- the number of each refusal
abbrev pub fit_number : FitRefusal → ℕ
fit_number (Record r) = number r
fit_number (Differs o) = 17
fit_number Short = 18

-- the instructions of a record's prologue, unless it has none, and of its epilogues in the order of their scopes
unfoldable pub epilogues_items : (code : List ℕ) → List (EpilogueOf Coded) → List Item
epilogues_items s [] = []
epilogues_items s (e ∷ es) = epilogue_items s e.start e.codes.list e.codes.end_size ++ epilogues_items s es

abbrev pub items : (code : List ℕ) → (fragment : Bool) → View Coded → List Item
items s f v = (if f then [] else prologue_items s v.codes.list) ++ epilogues_items s v.epilogues

-- 17 for the first that does not fit
abbrev pub answered : Compared → Fitted
answered (Ok u) = Ok tt
answered (Err d) = Err (Differs d.0)

-- 18 before 17 and after 7
abbrev pub view_fitted : (code : List ℕ) → Shape → View Coded → Fitted
view_fitted s sh v = if ltb (length s) sh.span then Err Short else answered (compared (items s sh.fragment v))

-- 6 and 7 by the record's view
abbrev pub shape_fitted : (code : List ℕ) → Shape → Fitted
shape_fitted s sh = either (view size_of coded_at sh) (λ r. Err (Record r)) (view_fitted s sh)

-- 1 of the .xdata, then 4 and 5
unfoldable pub fitted : Lent → (word : ℕ) → (code : List ℕ) → Fitted
fitted x w s = if fit_xdata x then either (shape_at x w) (λ r. Err (Record r)) (shape_fitted s) else Err (Record UnfitInput)
