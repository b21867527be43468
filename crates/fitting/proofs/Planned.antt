-- Comparing a record's instructions by its plan is comparing the items of its view.
-- Assumes nothing.
use Rattle.std.specs.Prelude.{if◌then◌else◌, Ok, Err}
use Prim.Native.Nat.{ℕ, ◌+◌, ◌-◌, ◌*◌, ◌<◌}
use mathlib.Core.Path.{◌≡◌, refl, sym, ap, ap₂, ◌∙◌}
use mathlib.Core.List.{List, [], ◌∷◌}
use mathlib.Core.Bool.{Bool, true, false}
use native.Mathlib.Omega.{arith}
use Rattle.words.specs.Units.{code_bytes}
use Rattle.words.specs.declared.CodeBytes.{CodeBytes}
use Rattle.words.specs.declared.Refusal.{Refusal}
use Rattle.words.specs.Answer.{either}
use Rattle.words.proofs.Answers.{bind_ok, ok_same}
use Rattle.unwinding.specs.CodeList.{Codes, total}
use Rattle.unwinding.specs.Shape.{Shape, start_of}
use Rattle.unwinding.specs.Taking.{Scan}
use Rattle.unwinding.specs.View.{EpilogueOf, View, epilogues, view}
use Rattle.unwinding.specs.declared.Scope.{Scope}
use Rattle.unwinding.proofs.Viewed.{viewed}
use Rattle.unwinding.proofs.Mapping.{mapped, codes_of}
use Rattle.codes.specs.Code.{size, scan, codes_at}
use Rattle.codes.specs.declared.Code.{Code}
use Rattle.reader.specs.AsCoded.Reading.{scanned}
use Rattle.reader.specs.declared.Ends.{Ends}
use Rattle.reader.proofs.Sizes.{scanned-ends, scanned-refused}
use Rattle.record.specs.AsCoded.Plan.{scope_in, scopes_from}
use Rattle.record.specs.declared.Scopes.{Scopes}
use Rattle.record.proofs.Shapes.{scopes-done, scopes-next}
use Rattle.place.specs.AsCoded.Look.{list_size, measured}
use Rattle.comparing.specs.Items.{Coded, size_of, scan_coded, coded_at, prologue_items, epilogue_items, compared}
use Rattle.comparing.specs.AsCoded.Passes.{or_else, prologue_pass, epilogue_pass}
use Rattle.comparing.proofs.Scanning.{scan-coded, codes-coded, total-coded}
use Rattle.comparing.proofs.Comparing.{compared-append, prologue-compared, epilogue-compared}
use Rattle.fitting.specs.Fitting.{epilogues_items, items}
use Rattle.fitting.specs.AsCoded.Passes.{open_pass, scope_by, scope_pass, scopes_pass}

-- what the pass from index 0 says of the list with first bytes
module _ (s k : List ℕ) (f : Bool) (whole : f ≡ false) where
  ending : (scan_coded k (code_bytes 0)).ending ≡ (scan k (code_bytes 0)).ending
  ending = ap (λ (x : Scan Code). x.ending) (scan-coded k (code_bytes 0))

  pub open-ends : (e : Ends) → scanned (scan k (code_bytes 0)) ≡ Ok e → prologue_pass s (scan_coded k (code_bytes 0)).list (Ok tt) ≡ open_pass s k f
  open-ends e q = let z = ending ∙ (scanned-ends k (code_bytes 0) e q).end-bytes in rw (whole, z) refl

  pub open-refused : (r : Refusal) → scanned (scan k (code_bytes 0)) ≡ Err r → Ok tt ≡ open_pass s k f
  open-refused r q = let z = ending ∙ scanned-refused k (code_bytes 0) r q in rw (whole, z) refl

pub open-total : (k : List ℕ) (e : Ends) → scanned (scan k (code_bytes 0)) ≡ Ok e → 2 * e.list ≡ total size_of (scan_coded k (code_bytes 0)).list
open-total k e q =
    sym (total-coded (scan_coded k (code_bytes 0)).list ∙ ap (λ (x : Scan Code). total size x.list) (scan-coded k (code_bytes 0)) ∙ (scanned-ends k (code_bytes 0) e q).list-bytes)

-- scopes in turn
module _ (s k x : List ℕ) (c : Scopes) (span i n : ℕ) where
  pub pass-done : n ≡ i → scopes_pass s k span (scopes_from c x i (n - i)) ≡ Ok tt
  unfolding scopes_pass
  pass-done h = ap (scopes_pass s k span) (scopes-done c x i n (omega arith))

  pub pass-next : i < n → scopes_pass s k span (scopes_from c x i (n - i)) ≡ or_else (scope_pass s k span (scope_in c x i)) (scopes_pass s k span (scopes_from c x (i + 1) (n - (i + 1))))
  unfolding scopes_pass
  pass-next h = ap (scopes_pass s k span) (scopes-next c x i n h)

-- a list that is read is the list that the pass goes over
read-list : (k : List ℕ) (i : CodeBytes) (c : Codes Coded) → coded_at k i ≡ Ok c → scan_coded k i ≡ record { list = c.list; ending = Ok c.end_size }
read-list k i c q =
    let a = bind_ok (scan_coded k i).ending _ c q in
    let z : record { list = (scan_coded k i).list; end_size = a.0 } ≡ c = ok_same _ _ a.2 in
    ap (λ r. record { list = (scan_coded k i).list; ending = r }) a.1 ∙ ap (λ (x : Codes Coded). record { list = x.list; ending = Ok x.end_size }) z

-- an epilogue of the view is its scope's
module _ (s : List ℕ) (sh : Shape) where
  scope-compared :
      (e : Scope) (c : Codes Coded) → coded_at sh.codes e.index ≡ Ok c
      → compared (epilogue_items s (start_of e.start sh.span (total size_of c.list + c.end_size)) c.list c.end_size) ≡ scope_pass s sh.codes sh.span e
  scope-compared e c q =
      let m : codes_at sh.codes e.index ≡ Ok (codes_of (λ (d : Coded). d.code) c) = sym (codes-coded sh.codes e.index) ∙ ap (mapped (codes_of (λ (d : Coded). d.code))) q in
      let n : total size_of c.list + c.end_size ≡ list_size (codes_of (λ (d : Coded). d.code) c) = ap (λ t. t + c.end_size) (total-coded c.list) in
      sym (epilogue-compared s (start_of e.start sh.span (total size_of c.list + c.end_size)) c.list c.end_size)
      ∙ ap (λ (x : Scan Coded). epilogue_pass s (start_of e.start sh.span (total size_of c.list + c.end_size)) x.list x.ending) (sym (read-list sh.codes e.index c q))
      ∙ ap (scope_by s sh.codes sh.span e) (ap Ok n ∙ sym (ap measured m))

  epilogues-compared :
      (es : List Scope) (exs : List (EpilogueOf Coded)) → epilogues size_of coded_at sh es ≡ Ok exs
      → compared (epilogues_items s exs) ≡ scopes_pass s sh.codes sh.span es
  unfolding epilogues epilogues_items scopes_pass compared
  epilogues-compared [] exs q = ap (λ l. compared (epilogues_items s l)) (sym (ok_same [] exs q))
  epilogues-compared (e ∷ es) exs q =
      let a = bind_ok (coded_at sh.codes e.index) _ exs q in
      let b = bind_ok (epilogues size_of coded_at sh es) _ exs a.2 in
      let c = a.0 in
      let n = total size_of c.list + c.end_size in
      let x : EpilogueOf Coded = record { start = start_of e.start sh.span n; size = n; condition = e.condition; codes = c } in
      ap (λ l. compared (epilogues_items s l)) (sym (ok_same (x ∷ b.0) exs b.2))
      ∙ compared-append (epilogue_items s x.start c.list c.end_size) (epilogues_items s b.0)
      ∙ ap₂ or_else (scope-compared e c a.1) (epilogues-compared es b.0 b.1)

  open-compared :
      (c : Codes Coded) → coded_at sh.codes (code_bytes 0) ≡ Ok c → (f : Bool)
      → compared (if f then [] else prologue_items s c.list) ≡ open_pass s sh.codes f
  unfolding compared
  open-compared c q true = refl
  open-compared c q false = sym (prologue-compared s c.list) ∙ ap (λ (x : Scan Coded). either x.ending (λ r. Ok tt) (λ n. prologue_pass s x.list (Ok tt))) (sym (read-list sh.codes (code_bytes 0) c q))

  pub plan-compared :
      (v : View Coded) → view size_of coded_at sh ≡ Ok v
      → compared (items s sh.fragment v) ≡ or_else (open_pass s sh.codes sh.fragment) (scopes_pass s sh.codes sh.span sh.scopes)
  plan-compared v q =
      let w = viewed size_of coded_at sh v q in
      compared-append (if sh.fragment then [] else prologue_items s v.codes.list) (epilogues_items s v.epilogues)
      ∙ ap₂ or_else (open-compared v.codes w.codes sh.fragment) (epilogues-compared sh.scopes v.epilogues w.epilogues)
