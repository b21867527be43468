-- The outline of a sound table is what it has to be. By the list in order from its end: a region that comes before an outline holds some regions
-- in front of it and is past all others, so those in front come under it, and whatever stood deeper stays under the smallest that holds it.
-- Assumes nothing.
use Rattle.std.specs.Prelude.{if◌then◌else◌, Option, None, Some}
use Prim.Native.Nat.{ℕ, suc, max, ◌≤◌, ◌<◌}
use mathlib.Core.Path.{◌≡◌, refl, sym, ap, ◌∙◌}
use mathlib.Core.Logic.{◌⊎◌, inl, inr}
use mathlib.Core.Bool.{Bool, true, false, ◌&&◌}
use mathlib.Core.List.{List, [], ◌∷◌, ◌++◌, append_assoc}
use lib.Dec.{leb, ltb, eqb}
use lib.ListN.{length}
use native.Mathlib.Omega.{arith}
use borrow.Author.Tests.{leb-true, ltb-true, lt-ltb, le-leb, eq-eqb, eqb-true}
use Rattle.words.proofs.Tests.{both}
use Rattle.regions.specs.declared.Region.{Region}
use Rattle.regions.specs.Region.{regions_from, within, covers, encloses, before, sound}
use Rattle.regions.proofs.Rows.{rows-length}
use Rattle.nesting.specs.Outline as Made
use Rattle.nesting.specs.Outline.{Outline, region, in_order, front, behind, nest, outline, regions_of, depth}
use Rattle.nesting.specs.Nested.{count, Among, Under, Parents, Leads, Sorted, Nested}
use Rattle.nesting.proofs.Sorting.{Ascends, Stands, past, over, Laid, before-begins, table-ascends}
use Rattle.nesting.proofs.Sorting.{order-has, order-keeps, order-count, order-length, order-laid}

-- ---- the tests as facts
-- what it is to hold a region
record Holds (r s : Region) : Type 0 where
  low : r.begin ≤ s.begin
  high : s.end ≤ r.end
  first : r.begin ≡ s.begin → r.end ≡ s.end → r.number < s.number

holds : (r s : Region) → encloses r s ≡ true → Holds r s
holds r s h =
    let c = both (covers r s) (if eqb r.begin s.begin && eqb r.end s.end then ltb r.number s.number else true) h in
    let d = both (leb r.begin s.begin) (leb s.end r.end) c.0 in
    record {
      low = leb-true _ _ d.0;
      high = leb-true _ _ d.1;
      first = λ e f. ltb-true _ _ (rw (eq-eqb r.begin s.begin e, eq-eqb r.end s.end f) at c.1);
    }

holds-is : (r s : Region) → Holds r s → encloses r s ≡ true
holds-is r s h =
    rw (le-leb r.begin s.begin h.low, le-leb s.end r.end h.high)
    (go (eqb r.begin s.begin) (eqb r.end s.end) refl refl)
  where
    go : (a b : Bool) → eqb r.begin s.begin ≡ a → eqb r.end s.end ≡ b → (if a && b then ltb r.number s.number else true) ≡ true
    go true true d e = lt-ltb _ _ (h.first (eqb-true _ _ d) (eqb-true _ _ e))
    go true false d e = refl
    go false b d e = refl

holds_not : (r s : Region) → (Holds r s → ⊥) → encloses r s ≡ false
holds_not r s f = go (encloses r s) refl
  where
    go : (b : Bool) → encloses r s ≡ b → encloses r s ≡ false
    go true e = absurd (f (holds r s e))
    go false e = e

-- no region holds itself, and none holds one that comes before it
not_itself : (r : Region) → encloses r r ≡ false
not_itself r = holds_not r r (λ h. omega (arith, h.first refl refl))

not_back : (r s : Region) → Stands r s → encloses s r ≡ false
not_back r s (past a b c) = holds_not s r (λ h. omega arith)
not_back r s (over a b c d) =
    holds_not s r
    (λ h.
    let p : r.begin ≡ s.begin = omega arith in
    let q : r.end ≡ s.end = omega arith in
    omega (arith, d p q, h.first (sym p) (sym q)))

-- one behind it is upright; it holds it if it covers it, and else is past it
behind-upright : (r s : Region) → Stands r s → s.begin < s.end
behind-upright r s (past a b c) = c
behind-upright r s (over a b c d) = b

covered : (r s : Region) → Stands r s → covers r s ≡ true → encloses r s ≡ true
covered r s (past a b c) h = absurd (omega (arith, leb-true s.end r.end (both (leb r.begin s.begin) (leb s.end r.end) h).1))
covered r s (over a b c d) h = holds-is r s (record { low = a; high = c; first = d })

uncovered : (r s : Region) → Stands r s → covers r s ≡ false → r.end ≤ s.begin
uncovered r s (past a b c) h = b
uncovered r s (over a b c d) h =
    absurd
    (let t : true ≡ false = rw (le-leb r.begin s.begin a, le-leb s.end r.end c) at h in
    let z : ◌≡◌ {A = ℕ} 0 1 = cc in omega arith)

-- past one it holds nothing that begins there or behind
past-holds : (r s : Region) → Stands r s → r.end ≤ s.begin → encloses r s ≡ false
past-holds r s h e = holds_not r s (λ k. omega (arith, behind-upright r s h))

-- where it holds what another one behind it holds, it holds that
between : (r u s : Region) → Stands r u → Stands r s → encloses u s ≡ true → encloses r s ≡ true → encloses r u ≡ true
between r u s (over a b c d) h k l = holds-is r u (record { low = a; high = c; first = d })
between r u s (past a b c) h k l =
    let i = holds u s k in let j = holds r s l in absurd (omega (arith, behind-upright r s h))

-- ---- what an outline has
among-left : (t : Region) (a b : List Region) → Among t a → Among t (a ++ b)
unfolding Among
among-left t [] b h = elim h [ ]
among-left t (r ∷ a) b (inl e) = inl e
among-left t (r ∷ a) b (inr h) = inr (among-left t a b h)

among-right : (t : Region) (a b : List Region) → Among t b → Among t (a ++ b)
unfolding Among
among-right t [] b h = h
among-right t (r ∷ a) b h = inr (among-right t a b h)

-- a fact of every region of an outline
unfoldable Every : (Region → Type 0) → Outline → Type 0
Every P Made.none = Unit {0}
Every P (region r i b) = P r × Every P i × Every P b

every : (P : Region → Type 0) (o : Outline) → ((s : Region) → Among s (regions_of o) → P s) → Every P o
unfolding Every regions_of Among
every P Made.none f = tt
every P (region r i b) f = (
  f r (inl refl),
  every P i (λ s a. f s (inr (among-left s (regions_of i) (regions_of b) a))),
  every P b (λ s a. f s (inr (among-right s (regions_of i) (regions_of b) a))),
)

-- those in front and those behind are all, and no deeper
module _ (r : Region) where
  regions-split : (o : Outline) → regions_of (front r o) ++ regions_of (behind r o) ≡ regions_of o
  unfolding front behind regions_of
  regions-split Made.none = refl
  regions-split (region s i b) = go (covers r s) (regions-split b)
    where
      go :
          (c : Bool) → regions_of (front r b) ++ regions_of (behind r b) ≡ regions_of b
          → regions_of (if c then region s i (front r b) else Made.none) ++ regions_of (if c then behind r b else region s i b)
          ≡ s ∷ (regions_of i ++ regions_of b)
      go true e = ap (λ l. s ∷ l) (append_assoc (regions_of i) (regions_of (front r b)) (regions_of (behind r b)) ∙ ap (λ l. regions_of i ++ l) e)
      go false e = refl

  front-depth : (o : Outline) → depth (front r o) ≤ depth o
  unfolding front depth
  front-depth Made.none = omega arith
  front-depth (region s i b) = go (covers r s) (front-depth b)
    where
      go : (c : Bool) → depth (front r b) ≤ depth b → depth (if c then region s i (front r b) else Made.none) ≤ max (suc (depth i)) (depth b)
      go true h = omega arith
      go false h = omega arith

  behind-depth : (o : Outline) → depth (behind r o) ≤ depth o
  unfolding behind depth
  behind-depth Made.none = omega arith
  behind-depth (region s i b) = go (covers r s) (behind-depth b)
    where
      go : (c : Bool) → depth (behind r b) ≤ depth b → depth (if c then behind r b else region s i b) ≤ max (suc (depth i)) (depth b)
      go true h = omega arith
      go false h = omega arith

nest-regions : (l : List Region) → regions_of (nest l) ≡ l
unfolding nest regions_of
nest-regions [] = refl
nest-regions (r ∷ l) = ap (λ k. r ∷ k) (regions-split r (nest l) ∙ nest-regions l)

nest-depth : (l : List Region) → depth (nest l) ≤ length l
unfolding nest depth
nest-depth [] = omega arith
nest-depth (r ∷ l) = omega (arith, front-depth r (nest l), behind-depth r (nest l), nest-depth l)

-- ---- the order of those side by side
module _ (r : Region) where
  front-leads : (s : Region) (o : Outline) → Leads s o → Leads s (front r o)
  unfolding front
  front-leads s Made.none h = tt
  front-leads s (region t i b) h = go (covers r t)
    where
      go : (c : Bool) → Leads s (if c then region t i (front r b) else Made.none)
      go true = h
      go false = tt

  front-sorted : (o : Outline) → Sorted o → Sorted (front r o)
  unfolding front Sorted
  front-sorted Made.none h = tt
  front-sorted (region s i b) h = go (covers r s) (front-sorted b h.2)
    where
      go : (c : Bool) → Sorted (front r b) → Sorted (if c then region s i (front r b) else Made.none)
      go true f = (front-leads s b h.0, h.1, f)
      go false f = tt

  behind-sorted : (o : Outline) → Sorted o → Sorted (behind r o)
  unfolding behind Sorted
  behind-sorted Made.none h = tt
  behind-sorted (region s i b) h = go (covers r s) (behind-sorted b h.2)
    where
      go : (c : Bool) → Sorted (behind r b) → Sorted (if c then behind r b else region s i b)
      go true f = f
      go false f = h

  behind-led : (o : Outline) → Every (λ s. before r s ≡ true) o → Leads r (behind r o)
  unfolding behind Every
  behind-led Made.none h = tt
  behind-led (region s i b) h = go (covers r s) (behind-led b h.2)
    where
      go : (c : Bool) → Leads r (behind r b) → Leads r (if c then behind r b else region s i b)
      go true f = f
      go false f = h.0

-- ---- where those behind a region stand once it is there
abbrev Behind : Region → List Region → Region → Type 0
Behind r l s = Among s l × Stands r s

-- the first of an outline begins at or behind a region's end
abbrev Beyond : Region → Outline → Type 0
Beyond r Made.none = Unit {0}
Beyond r (region s i b) = r.end ≤ s.begin

module _ (r : Region) (l : List Region) where
  -- what stood under a region stays there
  deeper : (u : Region) (o : Outline) → Stands r u → Every (Behind r l) o → Parents l (Some u) o → Parents (r ∷ l) (Some u) o
  unfolding Every Parents Among
  deeper u Made.none h e p = tt
  deeper u (region s i b) h e p =
      ((inr p.0.0, p.0.1, smallest), deeper s i e.0.1 e.1 p.1, deeper u b h e.2 p.2)
    where
      smallest : (t : Region) → (t ≡ r) ⊎ Among t l → encloses t s ≡ true → (t ≡ u) ⊎ (encloses t u ≡ true)
      smallest t (inl q) k = inr (rw q (between r u s h e.0.1 p.0.1 (rw q at k)))
      smallest t (inr a) k = p.0.2 t a k

  -- outermost ones that it is past stay outermost
  beyond : (o : Outline) → Every (Behind r l) o → Sorted o → Beyond r o → Parents l None o → Parents (r ∷ l) None o
  unfolding Every Sorted Parents Among
  beyond Made.none e h q p = tt
  beyond (region s i b) e h q p = (unheld, deeper s i e.0.1 e.1 p.1, beyond b e.2 h.2 (next b h.0) p.2)
    where
      unheld : (t : Region) → (t ≡ r) ⊎ Among t l → encloses t s ≡ false
      unheld t (inl k) = rw k (past-holds r s e.0.1 q)
      unheld t (inr a) = p.0 t a

      next : (o : Outline) → Leads s o → Beyond r o
      next Made.none k = tt
      next (region t j c) k = omega (arith, before-begins s t k)

  -- those in front that it covers come under it
  front-parents : (o : Outline) → Every (Behind r l) o → Parents l None o → Parents (r ∷ l) (Some r) (front r o)
  unfolding Every Parents Among front
  front-parents Made.none e p = tt
  front-parents (region s i b) e p = go (covers r s) refl (front-parents b e.2 p.2)
    where
      smallest : (t : Region) → (t ≡ r) ⊎ Among t l → encloses t s ≡ true → (t ≡ r) ⊎ (encloses t r ≡ true)
      smallest t (inl q) k = inl q
      smallest t (inr a) k = absurd (let f : encloses t s ≡ false = p.0 t a in let z : ◌≡◌ {A = ℕ} 0 1 = cc in omega arith)

      go :
          (c : Bool) → covers r s ≡ c → Parents (r ∷ l) (Some r) (front r b)
          → Parents (r ∷ l) (Some r) (if c then region s i (front r b) else Made.none)
      go true q f = ((inl refl, covered r s e.0.1 q, smallest), deeper s i e.0.1 e.1 p.1, f)
      go false q f = tt

  -- and those behind stay
  behind-parents : (o : Outline) → Every (Behind r l) o → Sorted o → Parents l None o → Parents (r ∷ l) None (behind r o)
  unfolding Every Sorted Parents Among behind
  behind-parents Made.none e h p = tt
  behind-parents (region s i b) e h p = go (covers r s) refl (behind-parents b e.2 h.2 p.2)
    where
      go : (c : Bool) → covers r s ≡ c → Parents (r ∷ l) None (behind r b) → Parents (r ∷ l) None (if c then behind r b else region s i b)
      go true q f = f
      go false q f = beyond (region s i b) e h (uncovered r s e.0.1 q) p

  -- it is held by none
  outermost : ((s : Region) → Among s l → Stands r s) → Under (r ∷ l) None r
  unfolding Among
  outermost f t (inl q) = rw q (not_itself r)
  outermost f t (inr a) = not_back r t (f t a)

nest-every : (P : Region → Type 0) (l : List Region) → ((s : Region) → Among s l → P s) → Every P (nest l)
nest-every P l f = every P (nest l) (λ s a. f s (rw nest-regions at a))

nest-sorted : (l : List Region) → Laid l → Sorted (nest l)
unfolding nest Sorted Laid
nest-sorted [] h = tt
nest-sorted (r ∷ l) h =
    let q = nest-sorted l h.1 in
    (behind-led r (nest l) (nest-every (λ s. before r s ≡ true) l (λ s a. (h.0 s a).0)), front-sorted r (nest l) q, behind-sorted r (nest l) q)

nest-parents : (l : List Region) → Laid l → Parents l None (nest l)
unfolding nest Parents Laid
nest-parents [] h = tt
nest-parents (r ∷ l) h =
    let e = nest-every (Behind r l) l (λ s a. (a, (h.0 s a).1)) in
    let p = nest-parents l h.1 in
    (outermost r l (λ s a. (h.0 s a).1), front-parents r l (nest l) e p, behind-parents r l (nest l) e (nest-sorted l h.1) p)

-- ---- the outline of a table
-- parents are the same in lists of the same regions
module _ (k l : List Region) (to : (s : Region) → Among s k → Among s l) (from : (s : Region) → Among s l → Among s k) where
  under_same : (u : Option Region) (r : Region) → Under k u r → Under l u r
  under_same None r h = λ s a. h s (from s a)
  under_same (Some u) r h = (to u h.0, h.1, λ s a e. h.2 s (from s a) e)

  parents-same : (u : Option Region) (o : Outline) → Parents k u o → Parents l u o
  unfolding Parents
  parents-same u Made.none p = tt
  parents-same u (region r i b) p = (under_same u r p.0, parents-same (Some r) i p.1, parents-same u b p.2)

pub nested-ascending : (rs : List Region) → Ascends rs → sound rs ≡ true → Nested rs (outline rs)
nested-ascending rs up h =
    let l = in_order rs in
    let laid = order-laid rs up h in
    record {
      once = λ p. ap (count p) (nest-regions l) ∙ order-count p rs;
      parents = parents-same l rs (λ s a. order-has s rs a) (λ s a. order-keeps s rs a) None (nest l) (nest-parents l laid);
      sorted = nest-sorted l laid;
      shallow = omega (arith, nest-depth l, order-length rs);
    }

pub nested : (s : List ℕ) (f n : ℕ) → sound (regions_from s f 0 n) ≡ true → Nested (regions_from s f 0 n) (outline (regions_from s f 0 n))
nested s f n h = nested-ascending (regions_from s f 0 n) (table-ascends s f 0 n) h

-- a table has at most 64 regions, so an outline is at most 64 deep
pub depth-64 : (s : List ℕ) (f n : ℕ) → n ≤ 64 → depth (outline (regions_from s f 0 n)) ≤ 64
depth-64 s f n h =
    let rs = regions_from s f 0 n in omega (arith, nest-depth (in_order rs), order-length rs, rows-length s f n 0)

-- ---- the mark: an RVA is in a region exactly from its begin up to its end
pub marked : (a : ℕ) (r : Region) → r.begin ≤ a → a < r.end → within a r ≡ true
marked a r h k = rw (le-leb r.begin a h) (lt-ltb a r.end k)

pub marked-only : (a : ℕ) (r : Region) → within a r ≡ true → (r.begin ≤ a) × (a < r.end)
marked-only a r h = let c = both (leb r.begin a) (ltb a r.end) h in (leb-true _ _ c.0, ltb-true _ _ c.1)
