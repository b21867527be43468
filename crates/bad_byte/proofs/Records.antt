-- A record: it is refused by 6 exactly if not all its lists can be read, and 6 then tells the byte of the first one that cannot.
-- Assumes nothing.
use Rattle.std.specs.Prelude.{if◌then◌else◌, Ok, Err}
use Prim.Native.Nat.{ℕ}
use mathlib.Core.Logic.{◌⊎◌, inl, inr, ⊎_elim}
use mathlib.Core.Path.{◌≡◌, refl, ap, subst, ◌∙◌}
use mathlib.Core.Bool.{Bool, true, false}
use mathlib.Core.List.{List, [], ◌∷◌, map}
use native.Mathlib.Omega.{arith}
use Rattle.words.specs.Units.{code_bytes}
use Rattle.words.specs.Refusals.{number}
use Rattle.words.specs.declared.CodeBytes.{CodeBytes}
use Rattle.words.specs.declared.Refusal.{Refusal}
use Rattle.words.specs.declared.Refusal.TheVariants.{BadCodes, BadLayout}
use Rattle.words.specs.Answer.{Res, need, ◌>>=◌, ◌>>◌}
use Rattle.unwinding.specs.CodeList.{Codes, total}
use Rattle.unwinding.specs.Shape.{Shape}
use Rattle.unwinding.specs.View.{EpilogueOf, View, fits, epilogues, view}
use Rattle.unwinding.specs.declared.Scope.{Scope}
use Rattle.codes.specs.Code.{size, codes_at}
use Rattle.codes.specs.declared.Code.{Code}
use Rattle.bad_byte.specs.Lists.{Reads, Bad}
use Rattle.bad_byte.specs.Records.{indices, AllRead, FirstOf, here, later, FirstBad}
use Rattle.bad_byte.proofs.Lists.{list-reads, list_tells, reads-list, tells-list, bad-once, bad-unread}

module _ (s : List ℕ) where
  -- a list can be read or not, and so can lists
  reads-or : (i : ℕ) → Reads s i ⊎ ((j : ℕ) × Bad s i j)
  reads-or i = go (codes_at s (code_bytes i)) refl
    where
      go : (x : Res (Codes Code)) → codes_at s (code_bytes i) ≡ x → Reads s i ⊎ ((j : ℕ) × Bad s i j)
      go (Ok c) e = inl (list-reads s i c e)
      go (Err r) e = let t = list_tells s i r e in inr (t.0, t.2)

  all-or : (l : List ℕ) → AllRead s l ⊎ ((j : ℕ) × FirstOf s l j)
  all-or [] = inl tt
  all-or (i ∷ is) = ⊎_elim (λ r. behind r (all-or is)) (λ b. inr (b.0, here b.1)) (reads-or i)
    where
      behind : Reads s i → AllRead s is ⊎ ((j : ℕ) × FirstOf s is j) → AllRead s (i ∷ is) ⊎ ((j : ℕ) × FirstOf s (i ∷ is) j)
      behind r (inl a) = inl (r, a)
      behind r (inr f) = inr (f.0, later r f.1)

  first-unread : {l : List ℕ} {j : ℕ} → FirstOf s l j → AllRead s l → ⊥
  first-unread (here b) a = bad-unread b a.0
  first-unread (later r f) a = first-unread f a.1

  same_first : {l : List ℕ} {j k : ℕ} → FirstOf s l j → FirstOf s l k → j ≡ k
  same_first (here b) (here c) = bad-once b c
  same_first (here b) (later r f) = absurd (bad-unread b r)
  same_first (later r f) (here b) = absurd (bad-unread b r)
  same_first (later r f) (later q g) = same_first f g

pub reads-or-bad : (sh : Shape) → AllRead sh.codes (indices sh) ⊎ ((j : ℕ) × FirstBad sh j)
reads-or-bad sh = all-or sh.codes (indices sh)

pub record-reads : (sh : Shape) → AllRead sh.codes (indices sh) → (j : ℕ) → FirstBad sh j → ⊥
record-reads sh a j f = first-unread sh.codes f a

pub first-once : (sh : Shape) (j k : ℕ) → FirstBad sh j → FirstBad sh k → j ≡ k
first-once sh j k f g = same_first sh.codes f g

-- ---- the view
-- an answer goes on
goes_on : {A B : Type 0} {x : Res A} {a : A} (f : A → Res B) → x ≡ Ok a → (x >>= f) ≡ f a
goes_on f e = ap (λ y. y >>= f) e

module _ (sh : Shape) where
  abbrev at : List Scope → List ℕ
  at es = map (λ (e : Scope). e.index.0) es

  epilogues-tell : (j : ℕ) (es : List Scope) → FirstOf sh.codes (at es) j → epilogues size codes_at sh es ≡ Err (BadCodes (code_bytes j))
  unfolding epilogues
  epilogues-tell j [] x' = elim x' [ ]
  epilogues-tell j (e ∷ es) (here b) = rw (tells-list sh.codes e.index.0 j b) refl
  epilogues-tell j (e ∷ es) (later r f) =
      rw ((reads-list sh.codes e.index.0 r).1, epilogues-tell j es f) refl

  epilogues-read : (es : List Scope) → AllRead sh.codes (at es) → (l : List (EpilogueOf Code)) × (epilogues size codes_at sh es ≡ Ok l)
  unfolding epilogues
  epilogues-read [] a = ([], refl)
  epilogues-read (e ∷ es) a = (_, goes_on _ (reads-list sh.codes e.index.0 a.0).1 ∙ goes_on _ (epilogues-read es a.1).1)

  pub tells-record : (j : ℕ) → FirstBad sh j → view size codes_at sh ≡ Err (BadCodes (code_bytes j))
  unfolding view
  tells-record j (here b) = rw (tells-list sh.codes 0 j b) refl
  tells-record j (later r f) = rw ((reads-list sh.codes 0 r).1, epilogues-tell j sh.scopes f) refl

  -- once all lists are read, only the layout is left
  layout-left : AllRead sh.codes (indices sh) → (r : Refusal) → view size codes_at sh ≡ Err r → r ≡ BadLayout
  unfolding view
  layout-left a r h =
      let c = reads-list sh.codes 0 a.0 in
      let l = epilogues-read sh.scopes a.1 in
      let p : ℕ = if sh.fragment then 0 else total size c.0.list in
      go (fits sh.span p l.0) (record { codes = c.0; prologue = p; epilogues = l.0 }) (rw (c.1, l.1) at h)
    where
      go : (t : Bool) (v : View Code) → (need t BadLayout >> Ok v) ≡ Err r → r ≡ BadLayout
      go true v q = absurd (let z : ◌≡◌ {A = ℕ} 0 1 = cc in omega arith)
      go false v q = cc

  pub record-tells :
      (r : Refusal) → view size codes_at sh ≡ Err r
      → (r ≡ BadLayout) ⊎ ((j : ℕ) × (r ≡ BadCodes (code_bytes j)) × FirstBad sh j)
  record-tells r h =
      ⊎_elim (λ a. inl (layout-left a r h))
      (λ f. let e : r ≡ BadCodes (code_bytes f.0) = cc (tells-record f.0 f.1) in inr (f.0, e, f.1))
      (reads-or-bad sh)

  -- so what is told is told of the first
  pub first-told : (j : ℕ) → view size codes_at sh ≡ Err (BadCodes (code_bytes j)) → FirstBad sh j
  first-told j h = go (record-tells (BadCodes (code_bytes j)) h)
    where
      go : (BadCodes (code_bytes j) ≡ BadLayout) ⊎ ((k : ℕ) × (BadCodes (code_bytes j) ≡ BadCodes (code_bytes k)) × FirstBad sh k) → FirstBad sh j
      go (inl e) = absurd (let z : ◌≡◌ {A = ℕ} 6 7 = ap number e in omega (arith, z))
      go (inr w) = let z : code_bytes w.0 ≡ code_bytes j = cc w.1 in subst (λ (i : CodeBytes). FirstBad sh i.0) z w.2
