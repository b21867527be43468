-- The one pass over a record (specs/Look.antt) finds what `view` and `todo` say.
-- Assumes nothing.
use Rattle.std.specs.Prelude.{if◌then◌else◌, IfOk, Ok, Err, Option, None, Some, slice_get}
use Prim.Native.Nat.{ℕ, zero, suc, ◌+◌, ◌-◌, ◌≤◌, ◌<◌}
use mathlib.Core.Path.{◌≡◌, refl, sym, ap, ◌∙◌, subst}
use mathlib.Core.List.{List, [], ◌∷◌, map}
use mathlib.Core.Bool.{Bool, true, false, ◌&&◌, ◌||◌}
use lib.Dec.{leb, ltb}
use lib.ListN.{length}
use native.Mathlib.Omega.{arith}
use borrow.Author.Tests.{ltb-true, leb-true, lt-leb, le-ltb}
use Rattle.words.proofs.Tests.{both}
use Rattle.words.specs.Units.{code_bytes}
use Rattle.words.specs.declared.CodeBytes.{CodeBytes}
use Rattle.words.specs.declared.Place.{Place}
use Rattle.words.specs.declared.Place.TheVariants.{Prologue, Body, Epilogue}
use Rattle.words.specs.declared.Refusal.TheVariants.{BadLayout, InsideInstruction, Conditional}
use Rattle.words.specs.Answer.{Res, ◌>>=◌, ◌>>◌, need, either, maybe, or_else, verdict}
use Rattle.unwinding.specs.CodeList.{Codes, total}
use Rattle.unwinding.specs.Shape.{Shape, start_of}
use Rattle.unwinding.specs.View.{EpilogueOf, View, stretch, fits, epilogues, view}
use Rattle.unwinding.specs.Todo.{Todo, left, in_epilogue, in_epilogues, todo}
use Rattle.unwinding.specs.declared.Scope.{Scope}
use Rattle.unwinding.specs.AsCoded.Lined.{lined, next, reach_of}
use Rattle.unwinding.proofs.Lined.{fits-lined}
use Rattle.codes.specs.declared.Code.{Code}
use Rattle.codes.specs.Code.{size, scan, codes_at}
use Rattle.codes.specs.Condition.{executing}
use Rattle.reader.specs.AsCoded.Skip.{skip_at}
use Rattle.reader.proofs.SkipEnds.{codes_behind, skip-ends, skip-ending}
use Rattle.place.specs.AsCoded.Look.{epilogue_span, stretch_of, hits, see, unseen, look_from, spot, by_skip, skipped, if_always, in_epilogue as in_span, in_here, in_seen, prologue_of, passed_by, passed, spot_of}
use Rattle.place.specs.declared.EpilogueSpan.{EpilogueSpan}
use Rattle.place.specs.declared.Seen.{Seen}
use Rattle.place.specs.declared.Passed.{Passed}
use Rattle.place.specs.declared.Spot.{Spot}

-- what a spot says is left to undo
abbrev pub todo_of : (codes : List ℕ) → Res Spot → Res (Todo Code)
todo_of s x = x >>= λ p. Ok (record { place = p.place; codes = (scan s p.index).list })

-- what was seen, or 6, with the prologue
abbrev pub with_seen : (prologue : ℕ) → Res Seen → Passed
with_seen p seen = record { prologue = p; seen = seen }

-- 6 and 7, by what the pass came to
abbrev pub judged : Passed → Res (Unit {0})
judged q = q.seen >>= λ seen. need seen.fits BadLayout

-- the epilogues as their codes make them, or 6
spans : (codes : List ℕ) → (span : ℕ) → List Scope → Res (List EpilogueSpan)
spans s span [] = Ok []
spans s span (e ∷ es) = codes_at s e.index >>= λ c. spans s span es >>= λ rest. Ok (epilogue_span span e c ∷ rest)

abbrev end_size : (codes : List ℕ) → CodeBytes → ℕ
end_size s i = or_else (scan s i).ending 0

abbrev span_epilogue : (codes : List ℕ) → EpilogueSpan → EpilogueOf Code
span_epilogue s w =
    record { start = w.start; size = w.size; condition = w.condition; codes = record { list = (scan s w.index).list; end_size = end_size s w.index } }

-- ---- the epilogues of a shape
module _ (sh : Shape) where
  epilogues-spans : (es : List Scope) → epilogues size codes_at sh es ≡ (spans sh.codes sh.span es >>= λ ws. Ok (map (span_epilogue sh.codes) ws))
  unfolding epilogues spans
  epilogues-spans [] = refl
  epilogues-spans (e ∷ es) = go (scan sh.codes e.index).ending refl (epilogues-spans es)
    where
      s : List ℕ
      s = sh.codes

      go :
          (x : Res ℕ) → (scan s e.index).ending ≡ x → epilogues size codes_at sh es ≡ (spans s sh.span es >>= λ ws. Ok (map (span_epilogue s) ws))
          → ((x >>= λ n. Ok (record { list = (scan s e.index).list; end_size = n })) >>= λ c. epilogues size codes_at sh es >>= λ rest. Ok (record { start = start_of e.start sh.span (total size c.list + c.end_size); size = total size c.list + c.end_size; condition = e.condition; codes = c } ∷ rest))
          ≡ (((x >>= λ n. Ok (record { list = (scan s e.index).list; end_size = n })) >>= λ c. spans s sh.span es >>= λ rest. Ok (epilogue_span sh.span e c ∷ rest)) >>= λ ws. Ok (map (span_epilogue s) ws))
      go (Err r) q ih = refl
      go (Ok n) q ih = rw ih (rest (spans s sh.span es))
        where
          same : end_size s e.index ≡ n
          same = ap (λ y. or_else y 0) q

          rest :
              (y : Res (List EpilogueSpan))
              → ((y >>= λ ws. Ok (map (span_epilogue s) ws)) >>= λ rest. Ok (record { start = start_of e.start sh.span (total size (scan s e.index).list + n); size = total size (scan s e.index).list + n; condition = e.condition; codes = record { list = (scan s e.index).list; end_size = n } } ∷ rest))
              ≡ ((y >>= λ rest. Ok (epilogue_span sh.span e (record { list = (scan s e.index).list; end_size = n }) ∷ rest)) >>= λ ws. Ok (map (span_epilogue s) ws))
          rest (Err r) = refl
          rest (Ok ws) =
              ap (λ m. Ok (record { start = start_of e.start sh.span (total size (scan s e.index).list + n); size = total size (scan s e.index).list + n; condition = e.condition; codes = record { list = (scan s e.index).list; end_size = m } } ∷ map (span_epilogue s) ws)) (sym same)

-- ---- what is seen of them
seen_all : (span offset number : ℕ) → Seen → List EpilogueSpan → Seen
seen_all span o k seen [] = seen
seen_all span o k seen (w ∷ ws) = seen_all span o (k + 1) (see span o k seen w) ws

look-spans :
    (s : List ℕ) (span o k : ℕ) (seen : Seen) (es : List Scope)
    → look_from s span o k seen es ≡ (spans s span es >>= λ ws. Ok (seen_all span o k seen ws))
unfolding look_from spans seen_all
look-spans s span o k seen [] = refl
look-spans s span o k seen (e ∷ es) = go (codes_at s e.index) (λ c. look-spans s span o (k + 1) (see span o k seen (epilogue_span span e c)) es)
  where
    go :
        (x : Res (Codes Code))
        → ((c : Codes Code) → look_from s span o (k + 1) (see span o k seen (epilogue_span span e c)) es ≡ (spans s span es >>= λ ws. Ok (seen_all span o (k + 1) (see span o k seen (epilogue_span span e c)) ws)))
        → (x >>= λ c. look_from s span o (k + 1) (see span o k seen (epilogue_span span e c)) es)
        ≡ ((x >>= λ c. spans s span es >>= λ rest. Ok (epilogue_span span e c ∷ rest)) >>= λ ws. Ok (seen_all span o k seen ws))
    go (Err r) ih = refl
    go (Ok c) ih = ih c ∙ rest (spans s span es)
      where
        rest :
            (y : Res (List EpilogueSpan))
            → (y >>= λ ws. Ok (seen_all span o (k + 1) (see span o k seen (epilogue_span span e c)) ws))
            ≡ ((y >>= λ rest. Ok (epilogue_span span e c ∷ rest)) >>= λ ws. Ok (seen_all span o k seen ws))
        rest (Err r) = refl
        rest (Ok ws) = refl

and_assoc : (a b c : Bool) → ((a && b) && c) ≡ (a && (b && c))
and_assoc true b c = refl
and_assoc false b c = refl

-- whether they stand in line
seen-fits :
    (span o k : ℕ) (seen : Seen) (ws : List EpilogueSpan)
    → (seen_all span o k seen ws).fits ≡ (seen.fits && lined span seen.floor seen.reach (map stretch_of ws))
unfolding seen_all
seen-fits span o k seen [] = go seen.fits
  where
    go : (a : Bool) → a ≡ (a && true)
    go true = refl
    go false = refl
seen-fits span o k seen (w ∷ ws) =
    seen-fits span o (k + 1) (see span o k seen w) ws
    ∙ and_assoc seen.fits (next span seen.floor seen.reach (stretch_of w))
    (lined span (w.start + 1) (reach_of seen.reach (stretch_of w)) (map stretch_of ws))

same-stretches : (s : List ℕ) (ws : List EpilogueSpan) → map stretch (map (span_epilogue s) ws) ≡ map stretch_of ws
same-stretches s [] = refl
same-stretches s (w ∷ ws) = ap (λ l. stretch_of w ∷ l) (same-stretches s ws)

fits-seen :
    (s : List ℕ) (span o p n : ℕ) (ws : List EpilogueSpan) → fits span p (map (span_epilogue s) ws) ≡ (seen_all span o 0 (unseen span p n) ws).fits
fits-seen s span o p n ws =
    fits-lined span p (map (span_epilogue s) ws) ∙ ap (λ l. leb p span && lined span 0 p l) (same-stretches s ws) ∙ sym (seen-fits span o 0 (unseen span p n) ws)

-- 6 and 7 by the pass, whatever the offset
module _ (sh : Shape) (o : ℕ) where
  pub view-passed : judged (passed sh.codes sh.span sh.fragment sh.scopes o) ≡ verdict (view size codes_at sh)
  unfolding view
  view-passed = go (scan sh.codes (code_bytes 0)).ending
    where
      first : ℕ → Codes Code
      first n = record { list = (scan sh.codes (code_bytes 0)).list; end_size = n }

      last :
          (c : Codes Code) (es : List (EpilogueOf Code)) (b : Bool)
          → need b BadLayout ≡ verdict {A = View Code} (need b BadLayout >> Ok (record { codes = c; prologue = prologue_of sh.fragment c; epilogues = es }))
      last c es true = refl
      last c es false = refl

      all :
          (c : Codes Code) (y : Res (List EpilogueSpan))
          → judged (with_seen (prologue_of sh.fragment c) (y >>= λ ws. Ok (seen_all sh.span o 0 (unseen sh.span (prologue_of sh.fragment c) (length sh.scopes)) ws)))
          ≡ verdict {A = View Code} ((y >>= λ ws. Ok (map (span_epilogue sh.codes) ws)) >>= λ es. need (fits sh.span (prologue_of sh.fragment c) es) BadLayout >> Ok (record { codes = c; prologue = prologue_of sh.fragment c; epilogues = es }))
      all c (Err r) = refl
      all c (Ok ws) =
          let p = prologue_of sh.fragment c in
          rw (fits-seen sh.codes sh.span o p (length sh.scopes) ws)
          (last c (map (span_epilogue sh.codes) ws) (seen_all sh.span o 0 (unseen sh.span p (length sh.scopes)) ws).fits)

      go :
          (x : Res ℕ)
          → judged (either (x >>= λ n. Ok (first n)) (λ r. with_seen 0 (Err r)) (passed_by sh.codes sh.span sh.fragment sh.scopes o))
          ≡ verdict {A = View Code} ((x >>= λ n. Ok (first n)) >>= λ c. epilogues size codes_at sh sh.scopes >>= λ es. need (fits sh.span (prologue_of sh.fragment c) es) BadLayout >> Ok (record { codes = c; prologue = prologue_of sh.fragment c; epilogues = es }))
      go (Err r) = refl
      go (Ok n) =
          rw
          (epilogues-spans sh sh.scopes, look-spans sh.codes sh.span o 0 (unseen sh.span (prologue_of sh.fragment (first n)) (length sh.scopes)) sh.scopes)
          (all (first n) (spans sh.codes sh.span sh.scopes))

-- the first that the offset falls into
hit : (offset : ℕ) → List EpilogueSpan → Option EpilogueSpan
hit o [] = None
hit o (w ∷ ws) = let later = hit o ws in if hits o w then Some w else later

abbrev todo_hit : (codes : List ℕ) → (offset : ℕ) → (body : List Code) → Option EpilogueSpan → Res (Todo Code)
todo_hit s o cs None = Ok (record { place = Body; codes = cs })
todo_hit s o cs (Some w) = in_epilogue size executing (span_epilogue s w) o

epilogues-hit : (s : List ℕ) (o : ℕ) (cs : List Code) (ws : List EpilogueSpan) → in_epilogues size executing (map (span_epilogue s) ws) o cs ≡ todo_hit s o cs (hit o ws)
unfolding in_epilogues hit
epilogues-hit s o cs [] = refl
epilogues-hit s o cs (w ∷ ws) = go (hits o w) (epilogues-hit s o cs ws)
  where
    go :
        (x : Bool) → in_epilogues size executing (map (span_epilogue s) ws) o cs ≡ todo_hit s o cs (hit o ws)
        → (if x then in_epilogue size executing (span_epilogue s w) o else in_epilogues size executing (map (span_epilogue s) ws) o cs) ≡ todo_hit s o cs (if x then Some w else hit o ws)
    go true ih = refl
    go false ih = ih

-- ---- where the epilogues stand in line, the offset falls into one at most, and the pass keeps its number
module _ (span o : ℕ) where
  -- a number that no later epilogue is below
  number-above : (j k : ℕ) (seen : Seen) (ws : List EpilogueSpan) → j ≤ k → j ≤ seen.at → j ≤ (seen_all span o k seen ws).at
  unfolding seen_all
  number-above j k seen [] h n = n
  number-above j k seen (w ∷ ws) h n = number-above j (k + 1) (see span o k seen w) ws (omega arith) (go (hits o w))
    where
      go : (x : Bool) → j ≤ (if x then k else seen.at)
      go true = h
      go false = n

  -- one that stands behind what is reached is not hit by an offset before that
  behind : (floor reach : ℕ) (w : EpilogueSpan) → next span floor reach (stretch_of w) ≡ true → o < reach → (hits o w ≡ false) × (o < reach_of reach (stretch_of w))
  behind floor reach w e l = go (leb (w.start + w.size) w.start) refl (both (leb floor w.start && leb (w.start + w.size) span) _ e).1
    where
      go :
          (x : Bool) → leb (w.start + w.size) w.start ≡ x → (x || leb reach w.start) ≡ true
          → (hits o w ≡ false) × (o < (if x then reach else w.start + w.size))
      go true q h = (none_in (leb w.start o) refl (leb-true _ _ q), l)
        where
          none_in : (y : Bool) → leb w.start o ≡ y → w.start + w.size ≤ w.start → (y && ltb o (w.start + w.size)) ≡ false
          none_in true p m = le-ltb o (w.start + w.size) (omega (arith, leb-true w.start o p, m))
          none_in false p m = refl
      go false q h =
          let r : reach ≤ w.start = leb-true _ _ h in
          (rw (lt-leb w.start o (omega (arith, r, l))) refl, omega (arith, r, l))

  stays :
      (k : ℕ) (seen : Seen) (ws : List EpilogueSpan) → lined span seen.floor seen.reach (map stretch_of ws) ≡ true → o < seen.reach
      → (seen_all span o k seen ws).at ≡ seen.at
  unfolding seen_all
  stays k seen [] e l = refl
  stays k seen (w ∷ ws) e l =
      let t = both (next span seen.floor seen.reach (stretch_of w)) _ e in
      let b = behind seen.floor seen.reach w t.0 l in
      stays (k + 1) (see span o k seen w) ws t.1 b.1 ∙ ap (λ x. if x then k else seen.at) b.0

  seen-hit :
      (k : ℕ) (seen : Seen) (ws : List EpilogueSpan) → lined span seen.floor seen.reach (map stretch_of ws) ≡ true → k + length ws ≤ seen.at
      → slice_get ws ((seen_all span o k seen ws).at - k) ≡ hit o ws
  unfolding seen_all hit
  seen-hit k seen [] e n = refl
  seen-hit k seen (w ∷ ws) e n = go (hits o w) refl (seen-hit (k + 1) (see span o k seen w) ws (both (next span seen.floor seen.reach (stretch_of w)) _ e).1)
    where
      rest : Seen
      rest = see span o k seen w

      go :
          (x : Bool) → hits o w ≡ x → (k + 1 + length ws ≤ rest.at → slice_get ws ((seen_all span o (k + 1) rest ws).at - (k + 1)) ≡ hit o ws)
          → slice_get (w ∷ ws) ((seen_all span o (k + 1) rest ws).at - k) ≡ (if x then Some w else hit o ws)
      go true q ih =
          let h = both (leb w.start o) (ltb o (w.start + w.size)) q in
          let l : o < w.start + w.size = ltb-true _ _ h.1 in
          let f : leb (w.start + w.size) w.start ≡ false = lt-leb (w.start + w.size) w.start (omega (arith, l, leb-true w.start o h.0)) in
          let r : o < reach_of seen.reach (stretch_of w) = rw f l in
          let a : (seen_all span o (k + 1) rest ws).at ≡ k = stays (k + 1) rest ws (both (next span seen.floor seen.reach (stretch_of w)) _ e).1 r ∙ ap (λ x. if x then k else seen.at) q in
          let z : (seen_all span o (k + 1) rest ws).at - k ≡ 0 = omega (arith, a) in
          ap (slice_get (w ∷ ws)) z
      go false q ih =
          let a : rest.at ≡ seen.at = ap (λ x. if x then k else seen.at) q in
          let m : k + 1 ≤ (seen_all span o (k + 1) rest ws).at = number-above (k + 1) (k + 1) rest ws (omega arith) (omega (arith, a, n)) in
          let z : (seen_all span o (k + 1) rest ws).at - k ≡ suc ((seen_all span o (k + 1) rest ws).at - (k + 1)) = omega (arith, m) in
          ap (slice_get (w ∷ ws)) z ∙ ih (omega (arith, a, n))

-- an epilogue has the number of its scope
abbrev in_hit : (codes : List ℕ) → (offset : ℕ) → Option EpilogueSpan → Res Spot
in_hit s o h = maybe h (Ok (spot Body (code_bytes 0))) (in_span s o)

spans-length : (s : List ℕ) (span : ℕ) (es : List Scope) (ws : List EpilogueSpan) → spans s span es ≡ Ok ws → length ws ≡ length es
unfolding spans
spans-length s span [] ws h = let e : [] ≡ ws = cc in ap length (sym e)
spans-length s span (e ∷ es) ws h = go (codes_at s e.index) (spans s span es) refl h (λ rest q. spans-length s span es rest q)
  where
    go :
        (x : Res (Codes Code)) (y : Res (List EpilogueSpan)) → spans s span es ≡ y
        → (x >>= λ c. y >>= λ rest. Ok (epilogue_span span e c ∷ rest)) ≡ Ok ws
        → ((rest : List EpilogueSpan) → spans s span es ≡ Ok rest → length rest ≡ length es)
        → length ws ≡ suc (length es)
    go (Err r) y v h ih = absurd (let z : ◌≡◌ {A = ℕ} 0 1 = cc in omega arith)
    go (Ok c) (Err r) v h ih = absurd (let z : ◌≡◌ {A = ℕ} 0 1 = cc in omega arith)
    go (Ok c) (Ok rest) v h ih = let t : epilogue_span span e c ∷ rest ≡ ws = cc in ap length (sym t) ∙ ap suc (ih rest v)

spans-number :
    (s : List ℕ) (span o : ℕ) (es : List Scope) (ws : List EpilogueSpan) → spans s span es ≡ Ok ws → (k : ℕ) → in_here s span es o k ≡ in_hit s o (slice_get ws k)
unfolding spans
spans-number s span o [] ws h k = let e : [] ≡ ws = cc in ap (λ l. in_hit s o (slice_get l k)) e
spans-number s span o (e ∷ es) ws h k =
    go (codes_at s e.index) refl (spans s span es) refl h k (λ rest q j. spans-number s span o es rest q j)
  where
    go :
        (x : Res (Codes Code)) → codes_at s e.index ≡ x → (y : Res (List EpilogueSpan)) → spans s span es ≡ y
        → (x >>= λ c. y >>= λ rest. Ok (epilogue_span span e c ∷ rest)) ≡ Ok ws → (k : ℕ)
        → ((rest : List EpilogueSpan) → spans s span es ≡ Ok rest → (j : ℕ) → in_here s span es o j ≡ in_hit s o (slice_get rest j))
        → in_here s span (e ∷ es) o k ≡ in_hit s o (slice_get ws k)
    go (Err r) q y v h k ih = absurd (let z : ◌≡◌ {A = ℕ} 0 1 = cc in omega arith)
    go (Ok c) q (Err r) v h k ih = absurd (let z : ◌≡◌ {A = ℕ} 0 1 = cc in omega arith)
    go (Ok c) q (Ok rest) v h zero ih =
        let t : epilogue_span span e c ∷ rest ≡ ws = cc in
        ap (λ x. x >>= λ c. in_span s o (epilogue_span span e c)) q ∙ ap (λ l. in_hit s o (slice_get l 0)) t
    go (Ok c) q (Ok rest) v h (suc k) ih =
        let t : epilogue_span span e c ∷ rest ≡ ws = cc in
        ih rest v k ∙ ap (λ l. in_hit s o (slice_get l (suc k))) t

-- so the pass ends in the first that the offset falls into
module _ (s : List ℕ) (span o p : ℕ) (es : List Scope) (ws : List EpilogueSpan) (q : spans s span es ≡ Ok ws) where
  abbrev final : Seen
  final = seen_all span o 0 (unseen span p (length es)) ws

  passed_here : final.fits ≡ true → in_here s span es o final.at ≡ in_hit s o (hit o ws)
  passed_here e =
      let l = both (leb p span) (lined span 0 p (map stretch_of ws)) (sym (seen-fits span o 0 (unseen span p (length es)) ws) ∙ e) in
      let n : 0 + length ws ≤ length es = omega (arith, spans-length s span es ws q) in
      let z : final.at ≡ final.at - 0 = omega arith in
      spans-number s span o es ws q final.at ∙ ap (λ k. in_hit s o (slice_get ws k)) z
      ∙ ap (in_hit s o) (seen-hit span o 0 (unseen span p (length es)) ws l.1 n)

  passed-spot :
      in_seen s span es o (record { prologue = p; seen = Ok final })
      ≡ (if final.fits then (if ltb o p then skipped s Prologue (code_bytes 0) (p - o) else in_hit s o (hit o ws)) else Err BadLayout)
  passed-spot = go final.fits refl
    where
      go :
          (b : Bool) → final.fits ≡ b
          → (if b then (if ltb o p then skipped s Prologue (code_bytes 0) (p - o) else in_here s span es o final.at) else Err BadLayout)
          ≡ (if b then (if ltb o p then skipped s Prologue (code_bytes 0) (p - o) else in_hit s o (hit o ws)) else Err BadLayout)
      go true e = ap (λ (h : Res Spot). if ltb o p then skipped s Prologue (code_bytes 0) (p - o) else h) (passed_here e)
      go false e = refl

-- an epilogue whose codes are read has their size
record Made (s : List ℕ) (w : EpilogueSpan) : Type 0 where
  end : ℕ
  ends : (scan s w.index).ending ≡ Ok end
  whole : w.size ≡ total size (scan s w.index).list + end

abbrev AllMade : List ℕ → List EpilogueSpan → Type 0
AllMade s [] = Unit {0}
AllMade s (w ∷ ws) = Made s w × AllMade s ws

spans-made : (s : List ℕ) (span : ℕ) (es : List Scope) (ws : List EpilogueSpan) → spans s span es ≡ Ok ws → AllMade s ws
unfolding spans
spans-made s span [] ws h = subst (AllMade s) (let e : [] ≡ ws = cc in e) tt
spans-made s span (e ∷ es) ws h = go (scan s e.index).ending refl (spans s span es) refl h (λ rest q. spans-made s span es rest q)
  where
    go :
        (x : Res ℕ) → (scan s e.index).ending ≡ x → (y : Res (List EpilogueSpan)) → spans s span es ≡ y
        → ((x >>= λ n. Ok (record { list = (scan s e.index).list; end_size = n })) >>= λ c. y >>= λ rest. Ok (epilogue_span span e c ∷ rest)) ≡ Ok ws
        → ((rest : List EpilogueSpan) → spans s span es ≡ Ok rest → AllMade s rest)
        → AllMade s ws
    go (Err r) q y v h ih = absurd (let z : ◌≡◌ {A = ℕ} 0 1 = cc in omega arith)
    go (Ok n) q (Err r) v h ih = absurd (let z : ◌≡◌ {A = ℕ} 0 1 = cc in omega arith)
    go (Ok n) q (Ok rest) v h ih =
        let t : epilogue_span span e (record { list = (scan s e.index).list; end_size = n }) ∷ rest ≡ ws = cc in
        subst (AllMade s) t (record { end = n; ends = q; whole = refl }, ih rest v)

-- the one that the offset falls into is one of them, and it does
record Inside (s : List ℕ) (o : ℕ) (w : EpilogueSpan) : Type 0 where
  made : Made s w
  low : w.start ≤ o
  high : o < w.start + w.size

abbrev HitInside : List ℕ → ℕ → Option EpilogueSpan → Type 0
HitInside s o None = Unit {0}
HitInside s o (Some w) = Inside s o w

hit-inside : (s : List ℕ) (o : ℕ) (ws : List EpilogueSpan) → AllMade s ws → HitInside s o (hit o ws)
unfolding hit
hit-inside s o [] m = tt
hit-inside s o (w ∷ ws) m = go (hits o w) refl (hit-inside s o ws m.1)
  where
    go : (x : Bool) → hits o w ≡ x → HitInside s o (hit o ws) → HitInside s o (if x then Some w else hit o ws)
    go true e ih =
        let t = both (leb w.start o) (ltb o (w.start + w.size)) e in
        record { made = m.0; low = leb-true _ _ t.0; high = ltb-true _ _ t.1 }
    go false e ih = ih

-- ---- what is left to undo there
left-skipped :
    (s : List ℕ) (p : Place) (i : CodeBytes) (after n k : ℕ) → k + n ≡ total size (scan s i).list + after
    → left size p after n (scan s i).list ≡ todo_of s (by_skip p (skip_at s i k))
unfolding left
left-skipped s p i after n k h = rw (skip-ends s after n i k h) (go (skip_at s i k))
  where
    go : (x : Option CodeBytes) → maybe (codes_behind s x) (Err InsideInstruction) (λ l. Ok (record { place = p; codes = l })) ≡ todo_of s (by_skip p x)
    go (Some j) = refl
    go None = refl

epilogue-skipped :
    (s : List ℕ) (o : ℕ) (w : EpilogueSpan) → Inside s o w → in_epilogue size executing (span_epilogue s w) o ≡ todo_of s (if_always (executing w.condition) (skip_at s w.index (o - w.start)))
unfolding in_epilogue
epilogue-skipped s o w h =
    let e : end_size s w.index ≡ h.made.end = ap (λ y. or_else y 0) h.made.ends in
    let k : o - w.start + (w.start + w.size - o) ≡ total size (scan s w.index).list + end_size s w.index =
    omega (arith, h.low, h.high, h.made.whole, e)
    in
    rw (left-skipped s Epilogue w.index (end_size s w.index) (w.start + w.size - o) (o - w.start) k) (go (skip_at s w.index (o - w.start)) (executing w.condition))
  where
    go : (x : Option CodeBytes) (b : Bool) → (todo_of s (by_skip Epilogue x) >>= λ t. need b Conditional >> Ok t) ≡ todo_of s (if_always b x)
    go (Some i) true = refl
    go (Some i) false = refl
    go None b = refl

-- in the body or in an epilogue
hit-todo : (s : List ℕ) (o : ℕ) (h : Option EpilogueSpan) → HitInside s o h → todo_hit s o (scan s (code_bytes 0)).list h ≡ todo_of s (in_hit s o h)
hit-todo s o None i = refl
hit-todo s o (Some w) i = epilogue-skipped s o w i

-- ---- the record and the offset
module _ (sh : Shape) (o : ℕ) where
  abbrev s : List ℕ
  s = sh.codes

  abbrev first : ℕ → Codes Code
  first n = record { list = (scan s (code_bytes 0)).list; end_size = n }

  -- the place, once 6 and 7 are passed
  todo-place :
      (p : ℕ) (c : Codes Code) (ws : List EpilogueSpan) → c.list ≡ (scan s (code_bytes 0)).list → AllMade s ws → (o < p → p ≡ total size (scan s (code_bytes 0)).list)
      → todo size executing (record { codes = c; prologue = p; epilogues = map (span_epilogue s) ws }) o
      ≡ todo_of s (if ltb o p then skipped s Prologue (code_bytes 0) (p - o) else in_hit s o (hit o ws))
  unfolding todo
  todo-place p c ws same made small = go (ltb o p) refl
    where
      go :
          (x : Bool) → ltb o p ≡ x
          → (if x then left size Prologue 0 o c.list else in_epilogues size executing (map (span_epilogue s) ws) o c.list)
          ≡ todo_of s (if x then skipped s Prologue (code_bytes 0) (p - o) else in_hit s o (hit o ws))
      go true e =
          let l : o < p = ltb-true o p e in
          let t : p ≡ total size (scan s (code_bytes 0)).list = small l in
          rw same (left-skipped s Prologue (code_bytes 0) 0 o (p - o) (omega arith))
      go false e = rw same (epilogues-hit s o (scan s (code_bytes 0)).list ws ∙ hit-todo s o (hit o ws) (hit-inside s o ws made))

  -- a prologue that an offset is in is no fragment's
  small-prologue : (f : Bool) (c : Codes Code) → c.list ≡ (scan s (code_bytes 0)).list → o < prologue_of f c → prologue_of f c ≡ total size (scan s (code_bytes 0)).list
  small-prologue true c same l = absurd (let z : o < 0 = l in omega arith)
  small-prologue false c same l = ap (total size) same

  pub spot-todo : (view size codes_at sh >>= λ v. todo size executing v o) ≡ todo_of s (spot_of s sh.span sh.fragment sh.scopes o)
  unfolding view spot_of
  spot-todo = go (scan s (code_bytes 0)).ending
    where
      last :
          (n : ℕ) (ws : List EpilogueSpan) → AllMade s ws → (b : Bool)
          → ((need b BadLayout >> Ok (record { codes = first n; prologue = prologue_of sh.fragment (first n); epilogues = map (span_epilogue s) ws })) >>= λ v. todo size executing v o)
          ≡ todo_of s
          (if b then (if ltb o (prologue_of sh.fragment (first n)) then skipped s Prologue (code_bytes 0) (prologue_of sh.fragment (first n) - o) else in_hit s o (hit o ws)) else Err BadLayout)
      last n ws made true = todo-place (prologue_of sh.fragment (first n)) (first n) ws refl made (small-prologue sh.fragment (first n) refl)
      last n ws made false = refl

      all :
          (n : ℕ) (y : Res (List EpilogueSpan)) → spans s sh.span sh.scopes ≡ y
          → (((y >>= λ ws. Ok (map (span_epilogue s) ws)) >>= λ es. need (fits sh.span (prologue_of sh.fragment (first n)) es) BadLayout >> Ok (record { codes = first n; prologue = prologue_of sh.fragment (first n); epilogues = es })) >>= λ v. todo size executing v o)
          ≡ todo_of s (in_seen s sh.span sh.scopes o (with_seen (prologue_of sh.fragment (first n)) (y >>= λ ws. Ok (seen_all sh.span o 0 (unseen sh.span (prologue_of sh.fragment (first n)) (length sh.scopes)) ws))))
      all n (Err r) q = refl
      all n (Ok ws) q =
          let p = prologue_of sh.fragment (first n) in
          rw
          (passed-spot s sh.span o p sh.scopes ws q, fits-seen s sh.span o p (length sh.scopes) ws)
          (last n ws (spans-made s sh.span sh.scopes ws q) (seen_all sh.span o 0 (unseen sh.span p (length sh.scopes)) ws).fits)

      go :
          (x : Res ℕ)
          → (((x >>= λ n. Ok (first n)) >>= λ c. epilogues size codes_at sh sh.scopes >>= λ es. need (fits sh.span (prologue_of sh.fragment c) es) BadLayout >> Ok (record { codes = c; prologue = prologue_of sh.fragment c; epilogues = es })) >>= λ v. todo size executing v o)
          ≡ todo_of s (in_seen s sh.span sh.scopes o (either (x >>= λ n. Ok (first n)) (λ r. with_seen 0 (Err r)) (passed_by s sh.span sh.fragment sh.scopes o)))
      go (Err r) = refl
      go (Ok n) =
          rw
          (epilogues-spans sh sh.scopes, look-spans s sh.span o 0 (unseen sh.span (prologue_of sh.fragment (first n)) (length sh.scopes)) sh.scopes)
          (all n (spans s sh.span sh.scopes) refl)

-- ---- the list at a spot ends
abbrev pub Ended : (codes : List ℕ) → Res Spot → Type 0
Ended s x = IfOk x (λ p. (n : ℕ) × ((scan s p.index).ending ≡ Ok n))

skip-ended :
    (s : List ℕ) (p : Place) (i : CodeBytes) (k n : ℕ) → (scan s i).ending ≡ Ok n → (x : Option CodeBytes) → skip_at s i k ≡ x → Ended s (by_skip p x)
skip-ended s p i k n h (Some j) e = (n, skip-ending s i k j e ∙ h)
skip-ended s p i k n h None e = tt

always-ended :
    (s : List ℕ) (b : Bool) (i : CodeBytes) (k n : ℕ) → (scan s i).ending ≡ Ok n → (x : Option CodeBytes) → skip_at s i k ≡ x → Ended s (if_always b x)
always-ended s true i k n h (Some j) e = (n, skip-ending s i k j e ∙ h)
always-ended s false i k n h (Some j) e = tt
always-ended s b i k n h None e = tt

hit-ended :
    (s : List ℕ) (o n : ℕ) → (scan s (code_bytes 0)).ending ≡ Ok n → (h : Option EpilogueSpan) → HitInside s o h → Ended s (in_hit s o h)
hit-ended s o n e None i = (n, e)
hit-ended s o n e (Some w) i =
    always-ended s (executing w.condition) w.index (o - w.start) i.made.end i.made.ends (skip_at s w.index (o - w.start)) refl

pub spot-ends :
    (s : List ℕ) (span : ℕ) (f : Bool) (scopes : List Scope) (o : ℕ) → Ended s (spot_of s span f scopes o)
unfolding spot_of
spot-ends s span f scopes o = go (scan s (code_bytes 0)).ending refl
  where
    whole : ℕ → Codes Code
    whole n = record { list = (scan s (code_bytes 0)).list; end_size = n }

    place :
        (n p : ℕ) (ws : List EpilogueSpan) → (scan s (code_bytes 0)).ending ≡ Ok n → AllMade s ws → (b c : Bool)
        → Ended s (if b then (if c then skipped s Prologue (code_bytes 0) (p - o) else in_hit s o (hit o ws)) else Err BadLayout)
    place n p ws e m true true = skip-ended s Prologue (code_bytes 0) (p - o) n e (skip_at s (code_bytes 0) (p - o)) refl
    place n p ws e m true false = hit-ended s o n e (hit o ws) (hit-inside s o ws m)
    place n p ws e m false c = tt

    all :
        (n p : ℕ) (y : Res (List EpilogueSpan)) → spans s span scopes ≡ y → (scan s (code_bytes 0)).ending ≡ Ok n
        → Ended s (in_seen s span scopes o (with_seen p (y >>= λ ws. Ok (seen_all span o 0 (unseen span p (length scopes)) ws))))
    all n p (Err r) q e = tt
    all n p (Ok ws) q e =
        subst (Ended s) (sym (passed-spot s span o p scopes ws q))
        (place n p ws e (spans-made s span scopes ws q) (seen_all span o 0 (unseen span p (length scopes)) ws).fits (ltb o p))

    go :
        (x : Res ℕ) → (scan s (code_bytes 0)).ending ≡ x
        → Ended s (in_seen s span scopes o (either (x >>= λ n. Ok (whole n)) (λ r. with_seen 0 (Err r)) (passed_by s span f scopes o)))
    go (Err r) e = tt
    go (Ok n) e =
        subst (λ l. Ended s (in_seen s span scopes o (with_seen (prologue_of f (whole n)) l))) (sym (look-spans s span o 0 (unseen span (prologue_of f (whole n)) (length scopes)) scopes))
        (all n (prologue_of f (whole n)) (spans s span scopes) refl e)
