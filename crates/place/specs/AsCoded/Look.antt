-- Where an offset stands in a record, as one pass over the record finds it: the epilogues in turn, with what refusal 7 asks of them and
-- the number of the one that the offset falls into; then the place and the index at which the codes that run there begin. That this is
-- what `view` and `todo` say is a law (proofs/Placing.antt).
use Rattle.std.specs.Prelude.{ℕ, ◌+◌, ◌-◌, ◌≤◌, List, [], ◌∷◌, Bool, ◌&&◌, leb, ltb, length, if◌then◌else◌, Option, Ok, Err, slice_get}
use Rattle.words.specs.declared.CodeBytes.{CodeBytes}
use Rattle.words.specs.declared.Place.{Place}
use Rattle.words.specs.declared.Place.TheVariants.{Prologue, Body, Epilogue}
use Rattle.words.specs.declared.Refusal.TheVariants.{BadLayout, InsideInstruction, Conditional}
use Rattle.words.specs.Units.{code_bytes}
use Rattle.words.specs.Answer.{Res, ◌>>=◌, ◌>>◌, need, either, maybe}
use Rattle.unwinding.specs.CodeList.{Codes, total}
use Rattle.unwinding.specs.Shape.{start_of}
use Rattle.unwinding.specs.View.{Stretch}
use Rattle.unwinding.specs.AsCoded.Lined.{reach_of, next}
use Rattle.unwinding.specs.declared.Scope.{Scope}
use Rattle.codes.specs.declared.Code.{Code}
use Rattle.codes.specs.Code.{size, codes_at}
use Rattle.codes.specs.Condition.{executing}
use Rattle.reader.specs.AsCoded.Skip.{skip_at}
use Rattle.record.specs.AsCoded.Plan.{scopes_end}
use Rattle.record.specs.declared.Plan.{Plan}
use Rattle.place.specs.declared.EpilogueSpan.{EpilogueSpan}
use Rattle.place.specs.declared.Seen.{Seen}
use Rattle.place.specs.declared.Passed.{Passed}
use Rattle.place.specs.declared.Spot.{Spot}

-- what whoever read a record has found: there are few code bytes, and the scope words are in the .xdata
abbrev pub Ready : (codes : List ℕ) → Plan → (xdata : List ℕ) → Type 0
Ready s p x = (length s ≤ 1020) × (scopes_end p.scopes p.count ≤ length x)

-- the size of a code list's instructions, its end code's with them
abbrev pub list_size : Codes Code → ℕ
list_size c = total size c.list + c.end_size

abbrev pub measured : Res (Codes Code) → Res ℕ
measured r = r >>= λ c. Ok (list_size c)

-- an epilogue as its codes make it (RULES 5.4)
abbrev pub span_by : (span : ℕ) → Scope → (size : ℕ) → EpilogueSpan
span_by span e n = record { start = start_of e.start span n; size = n; condition = e.condition; index = e.index }

abbrev pub epilogue_span : (span : ℕ) → Scope → Codes Code → EpilogueSpan
epilogue_span span e c = span_by span e (list_size c)

-- the bytes that it takes
abbrev pub stretch_of : EpilogueSpan → Stretch
stretch_of w = record { from = w.start; to = w.start + w.size }

-- whether the offset falls into it
abbrev pub hits : (offset : ℕ) → EpilogueSpan → Bool
hits o w = leb w.start o && ltb o (w.start + w.size)

-- what has been seen with one epilogue more, of this number
abbrev pub see : (span offset number : ℕ) → Seen → EpilogueSpan → Seen
see span o k s w =
    record { floor = w.start + 1; reach = reach_of s.reach (stretch_of w); fits = s.fits && next span s.floor s.reach (stretch_of w); at = if hits o w then k else s.at }

-- before any epilogue, of n: the prologue is what must not be shared
abbrev pub unseen : (span prologue n : ℕ) → Seen
unseen span p n = record { floor = 0; reach = p; fits = leb p span; at = n }

-- the epilogues in turn, over these code bytes, the first of which has this number; 6 stops
unfoldable pub look_from : (codes : List ℕ) → (span offset number : ℕ) → Seen → List Scope → Res Seen
look_from s span o k seen [] = Ok seen
look_from s span o k seen (e ∷ es) = codes_at s e.index >>= λ c. look_from s span o (k + 1) (see span o k seen (epilogue_span span e c)) es

-- a place, and the index of the first code that runs there
abbrev pub spot : Place → CodeBytes → Spot
spot p i = record { place = p; index = i }

abbrev pub by_skip : Place → Option CodeBytes → Res Spot
by_skip p x = maybe x (Err InsideInstruction) (λ i. Ok (spot p i))

-- the codes from an index whose instructions take k bytes are skipped
abbrev pub skipped : (codes : List ℕ) → Place → CodeBytes → (k : ℕ) → Res Spot
skipped s p i k = by_skip p (skip_at s i k)

-- in an epilogue (RULES 5.9): 9 before 10
abbrev pub if_always : (unconditional : Bool) → Option CodeBytes → Res Spot
if_always b x = by_skip Epilogue x >>= λ p. need b Conditional >> Ok p

abbrev pub in_epilogue : (codes : List ℕ) → (offset : ℕ) → EpilogueSpan → Res Spot
in_epilogue s o w = if_always (executing w.condition) (skip_at s w.index (o - w.start))

abbrev pub in_scope : (codes : List ℕ) → (span offset : ℕ) → Scope → Res Spot
in_scope s span o e = codes_at s e.index >>= λ c. in_epilogue s o (epilogue_span span e c)

-- in the epilogue of a number, or, where none has it, in the body
abbrev pub in_here : (codes : List ℕ) → (span : ℕ) → List Scope → (offset number : ℕ) → Res Spot
in_here s span scopes o k = maybe (slice_get scopes k) (Ok (spot Body (code_bytes 0))) (in_scope s span o)

-- 7, and then the place (RULES 5.6)
abbrev pub in_seen : (codes : List ℕ) → (span : ℕ) → List Scope → (offset : ℕ) → Passed → Res Spot
in_seen s span scopes o q =
    q.seen >>= λ seen.
    if seen.fits
    then (if ltb o q.prologue then skipped s Prologue (code_bytes 0) (q.prologue - o) else in_here s span scopes o seen.at)
    else Err BadLayout

-- the prologue's size (RULES 5.3)
abbrev pub prologue_of : (fragment : Bool) → Codes Code → ℕ
prologue_of f c = if f then 0 else total size c.list

-- the prologue and the epilogues, once the codes from index 0 are read; the prologue stands beside an epilogue's 6 too
abbrev pub passed_by : (codes : List ℕ) → (span : ℕ) → (fragment : Bool) → List Scope → (offset : ℕ) → Codes Code → Passed
passed_by s span f scopes o c =
    record { prologue = prologue_of f c; seen = look_from s span o 0 (unseen span (prologue_of f c) (length scopes)) scopes }

abbrev pub passed : (codes : List ℕ) → (span : ℕ) → (fragment : Bool) → List Scope → (offset : ℕ) → Passed
passed s span f scopes o =
    either (codes_at s (code_bytes 0)) (λ r. record { prologue = 0; seen = Err r }) (passed_by s span f scopes o)

unfoldable pub spot_of : (codes : List ℕ) → (span : ℕ) → (fragment : Bool) → List Scope → (offset : ℕ) → Res Spot
spot_of s span f scopes o = in_seen s span scopes o (passed s span f scopes o)
