-- A record's instructions compared by its plan, in one pass over its code lists. That this is comparing the items of its view is a law
-- (`plan-compared` of proofs/Planned.antt).
use Rattle.std.specs.Prelude.{ℕ, List, [], ◌∷◌, Bool, length, ltb, if◌then◌else◌, Ok, Err}
use Rattle.words.specs.Units.{code_bytes}
use Rattle.words.specs.Answer.{Res, either}
use Rattle.unwinding.specs.Shape.{start_of}
use Rattle.unwinding.specs.declared.Scope.{Scope}
use Rattle.codes.specs.Code.{codes_at}
use Rattle.record.specs.AsCoded.Plan.{scopes_from}
use Rattle.record.specs.declared.Plan.{Plan}
use Rattle.place.specs.AsCoded.Look.{measured}
use Rattle.comparing.specs.Items.{scan_coded, Compared}
use Rattle.comparing.specs.AsCoded.Passes.{or_else, prologue_pass, epilogue_pass}
use Rattle.fitting.specs.Fitting.{Fitted, answered}
use Rattle.fitting.specs.declared.FitRefusal.TheVariants.{Short}

-- the prologue, over code bytes k: a list that cannot be read has nothing to compare, since 6 comes before
abbrev pub open_pass : (s k : List ℕ) → (fragment : Bool) → Compared
open_pass s k f =
    if f then Ok tt else either (scan_coded k (code_bytes 0)).ending (λ r. Ok tt) (λ n. prologue_pass s (scan_coded k (code_bytes 0)).list (Ok tt))

-- an epilogue by its scope, once its list is measured
abbrev pub scope_by : (s k : List ℕ) → (span : ℕ) → Scope → (size : Res ℕ) → Compared
scope_by s k span e n = either n (λ r. Ok tt) (λ n. epilogue_pass s (start_of e.start span n) (scan_coded k e.index).list (scan_coded k e.index).ending)

abbrev pub scope_pass : (s k : List ℕ) → (span : ℕ) → Scope → Compared
scope_pass s k span e = scope_by s k span e (measured (codes_at k e.index))

unfoldable pub scopes_pass : (s k : List ℕ) → (span : ℕ) → List Scope → Compared
scopes_pass s k span [] = Ok tt
scopes_pass s k span (e ∷ es) = or_else (scope_pass s k span e) (scopes_pass s k span es)

abbrev pub plan_pass : (s k : List ℕ) → Plan → (xdata : List ℕ) → Compared
plan_pass s k p x = or_else (open_pass s k p.fragment) (scopes_pass s k p.span (scopes_from p.scopes x 0 p.count))

abbrev pub plan_fitted : (s k : List ℕ) → Plan → (xdata : List ℕ) → Fitted
plan_fitted s k p x = if ltb (length s) p.span then Err Short else answered (plan_pass s k p x)
