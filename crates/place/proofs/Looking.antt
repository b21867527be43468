-- One epilogue more of the pass, by what a scope's codes come to.
-- Assumes nothing.
use Rattle.std.specs.Prelude.{if◌then◌else◌, Ok, Err, None, Some, slice_get}
use Prim.Native.Nat.{ℕ, zero, suc, ◌+◌, ◌-◌, ◌≤◌, ◌<◌}
use mathlib.Core.Path.{◌≡◌, refl, sym, ap, ◌∙◌}
use mathlib.Core.List.{List, [], ◌∷◌}
use mathlib.Core.Bool.{Bool}
use lib.ListN.{length}
use native.Mathlib.Omega.{arith}
use Rattle.words.specs.declared.CodeBytes.{CodeBytes}
use Rattle.words.specs.declared.Place.TheVariants.{Body}
use Rattle.words.specs.declared.Refusal.{Refusal}
use Rattle.words.specs.Answer.{Res, ◌>>=◌, either, maybe}
use Rattle.unwinding.specs.CodeList.{Codes, total}
use Rattle.unwinding.specs.declared.Scope.{Scope}
use Rattle.codes.specs.declared.Code.{Code}
use Rattle.reader.specs.declared.Ends.{Ends}
use Rattle.codes.specs.Code.{size, scan, codes_at}
use Rattle.reader.specs.AsCoded.Reading.{scanned}
use Rattle.reader.proofs.Sizes.{scanned-ends, codes-end, codes-refused}
use Rattle.record.proofs.Shapes.{scopes-next}
use Rattle.record.specs.AsCoded.Plan.{scope_in, scopes_from}
use Rattle.record.specs.declared.Scopes.{Scopes}
use Rattle.words.specs.Units.{code_bytes, halfwords, halfword_bytes}
use Rattle.place.specs.AsCoded.Look.{list_size, measured, span_by, see, look_from, unseen, spot, in_scope, in_here, passed_by, passed}
use Rattle.place.specs.declared.Seen.{Seen}
use Rattle.place.specs.declared.Passed.{Passed}

-- the size of a code list, by the pass over it
pub measured-ends :
    (s : List ℕ) (i : CodeBytes) (f : Ends) (n : ℕ) → scanned (scan s i) ≡ Ok f → n ≡ halfword_bytes (halfwords (f.list + f.end)) → measured (codes_at s i) ≡ Ok n
measured-ends s i f n q z =
    let m = scanned-ends s i f q in
    let b : n ≡ total size (scan s i).list + halfword_bytes (halfwords f.end) = omega (arith, z, m.list-bytes) in
    ap measured (codes-end s i f q) ∙ sym (ap Ok b)

-- what is made of a code list, by its size
module _ {A : Type 0} (f : ℕ → Res A) where
  pub by_bytes : (x : Res (Codes Code)) (n : ℕ) → measured x ≡ Ok n → (x >>= λ c. f (list_size c)) ≡ f n
  by_bytes (Ok c) n p = let v : list_size c ≡ n = cc in ap f v
  by_bytes (Err r) n p = absurd (let z : ◌≡◌ {A = ℕ} 0 1 = cc in omega arith)

  pub by-unread : (x : Res (Codes Code)) (r : Refusal) → measured x ≡ Err r → (x >>= λ c. f (list_size c)) ≡ Err r
  by-unread (Ok c) r p = absurd (let z : ◌≡◌ {A = ℕ} 0 1 = cc in omega arith)
  by-unread (Err t) r p = let v : t ≡ r = cc in ap Err v

-- the pass with that scope in front
module _ (s : List ℕ) (span o k : ℕ) (seen : Seen) (e : Scope) (es : List Scope) where
  look-made : (n : ℕ) → measured (codes_at s e.index) ≡ Ok n → look_from s span o k seen (e ∷ es) ≡ look_from s span o (k + 1) (see span o k seen (span_by span e n)) es
  unfolding look_from
  look-made n q = by_bytes (λ n. look_from s span o (k + 1) (see span o k seen (span_by span e n)) es) (codes_at s e.index) n q

  look-bad : (r : Refusal) → measured (codes_at s e.index) ≡ Err r → look_from s span o k seen (e ∷ es) ≡ Err r
  unfolding look_from
  look-bad r q = by-unread (λ n. look_from s span o (k + 1) (see span o k seen (span_by span e n)) es) (codes_at s e.index) r q

pub look_none : (s : List ℕ) (span o k : ℕ) (seen : Seen) → look_from s span o k seen [] ≡ Ok seen
unfolding look_from
look_none s span o k seen = refl

-- a turn of the pass over the scopes
module _ (s x : List ℕ) (c : Scopes) (span o : ℕ) (seen : Seen) (k n : ℕ) (h : k < n) (e : Scope) (here : e ≡ scope_in c x k) where
  first : scopes_from c x k (n - k) ≡ e ∷ scopes_from c x (k + 1) (n - (k + 1))
  first = scopes-next c x k n h ∙ ap (λ y. y ∷ scopes_from c x (k + 1) (n - (k + 1))) (sym here)

  pub turn-made :
      (m : ℕ) → measured (codes_at s e.index) ≡ Ok m
      → look_from s span o (k + 1) (see span o k seen (span_by span e m)) (scopes_from c x (k + 1) (n - (k + 1))) ≡ look_from s span o k seen (scopes_from c x k (n - k))
  turn-made m q = sym (ap (look_from s span o k seen) first ∙ look-made s span o k seen e (scopes_from c x (k + 1) (n - (k + 1))) m q)

  pub turn-bad : (r : Refusal) → measured (codes_at s e.index) ≡ Err r → Err r ≡ look_from s span o k seen (scopes_from c x k (n - k))
  turn-bad r q = sym (ap (look_from s span o k seen) first ∙ look-bad s span o k seen e (scopes_from c x (k + 1) (n - (k + 1))) r q)

-- ---- the scope of a number
scopes-length : (c : Scopes) (x : List ℕ) (k n : ℕ) → length (scopes_from c x k n) ≡ n
unfolding scopes_from
scopes-length c x k zero = refl
scopes-length c x k (suc n) = ap suc (scopes-length c x (k + 1) n)

scopes-number : (c : Scopes) (x : List ℕ) (k n j : ℕ) → j < n → slice_get (scopes_from c x k n) j ≡ Some (scope_in c x (k + j))
unfolding scopes_from
scopes-number c x k zero j h = absurd (omega arith)
scopes-number c x k (suc n) zero h = let e : k ≡ k + 0 = omega arith in ap (λ i. Some (scope_in c x i)) e
scopes-number c x k (suc n) (suc j) h =
    let e : k + 1 + j ≡ k + suc j = omega arith in
    scopes-number c x (k + 1) n j (omega arith) ∙ ap (λ i. Some (scope_in c x i)) e

scopes-none : (c : Scopes) (x : List ℕ) (k n j : ℕ) → n ≤ j → slice_get (scopes_from c x k n) j ≡ None
unfolding scopes_from
scopes-none c x k zero j h = refl
scopes-none c x k (suc n) zero h = absurd (omega arith)
scopes-none c x k (suc n) (suc j) h = scopes-none c x (k + 1) n j (omega arith)

module _ (s x : List ℕ) (c : Scopes) (span o n j : ℕ) where
  pub here-scope : j < n → in_scope s span o (scope_in c x j) ≡ in_here s span (scopes_from c x 0 n) o j
  here-scope h =
      let e : 0 + j ≡ j = omega arith in
      sym (ap (λ y. maybe y (Ok (spot Body (code_bytes 0))) (in_scope s span o)) (scopes-number c x 0 n j h ∙ ap (λ i. Some (scope_in c x i)) e))

  pub here-body : n ≤ j → Ok (spot Body (code_bytes 0)) ≡ in_here s span (scopes_from c x 0 n) o j
  here-body h = sym (ap (λ y. maybe y (Ok (spot Body (code_bytes 0))) (in_scope s span o)) (scopes-none c x 0 n j h))

-- the whole pass, once the codes from index 0 are read
module _ (s x : List ℕ) (c : Scopes) (n span : ℕ) (f : Bool) (o : ℕ) where
  abbrev es : List Scope
  es = scopes_from c x 0 n

  abbrev with : ℕ → Res Seen → Passed
  with p k = record { prologue = p; seen = k }

  pub passed-made :
      (e : Ends) (p : ℕ) → scanned (scan s (code_bytes 0)) ≡ Ok e → p ≡ (if f then 0 else halfword_bytes (halfwords e.list))
      → record { prologue = p; seen = look_from s span o 0 (unseen span p n) es } ≡ passed s span f es o
  passed-made e p q z =
      let m = scanned-ends s (code_bytes 0) e q in
      let b : p ≡ (if f then 0 else total size (scan s (code_bytes 0)).list) = z ∙ ap (λ k. if f then 0 else k) (sym m.list-bytes) in
      ap (λ l. with p (look_from s span o 0 (unseen span p l) es)) (sym (scopes-length c x 0 n))
      ∙ ap (λ k. with k (look_from s span o 0 (unseen span k (length es)) es)) b
      ∙ sym (ap (λ x. either x (λ r. with 0 (Err r)) (passed_by s span f es o)) (codes-end s (code_bytes 0) e q))

  pub passed-bad : (r : Refusal) → scanned (scan s (code_bytes 0)) ≡ Err r → record { prologue = 0; seen = Err r } ≡ passed s span f es o
  passed-bad r q = sym (ap (λ x. either x (λ r. with 0 (Err r)) (passed_by s span f es o)) (codes-refused s (code_bytes 0) r q))
