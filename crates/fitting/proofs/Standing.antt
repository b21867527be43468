-- Items that fit are those whose instructions are their codes'; and what comparing them in turn comes to.
-- Assumes nothing.
use Rattle.std.specs.Prelude.{if◌then◌else◌, Ok, Err}
use Prim.Native.Nat.{ℕ}
use mathlib.Core.Path.{◌≡◌, refl, sym, ap, ◌∙◌}
use mathlib.Core.Logic.{◌⊎◌, inl, inr}
use mathlib.Core.List.{List, [], ◌∷◌, ◌++◌}
use mathlib.Core.Bool.{Bool, true, false, ◌||◌}
use lib.Dec.{eqb}
use native.Mathlib.Omega.{arith}
use borrow.Author.Tests.{eqb-true, eq-eqb}
use Rattle.words.specs.declared.Halfwords.{Halfwords}
use Rattle.words.proofs.Tests.{both}
use Rattle.thumb.specs.declared.Action.{Action}
use Rattle.expected.specs.Expected.{home, same, allows}
use Rattle.comparing.specs.Items.{Item, expects, fits, Compared, differs, compared}
use Rattle.expected.specs.declared.Acts.{Acts}
use Rattle.expected.specs.declared.Acts.TheVariants.{Any, This, OrHome}
use Rattle.expected.proofs.Equal.{same-equal, equal-same}
use Rattle.fitting.specs.Exactly.{As, Stands, AllStand}

allows-as : (e : Acts) (a : Action) → allows e a ≡ true → As e a
allows-as Any a h = tt
allows-as (This b) a h = same-equal a b h
allows-as (OrHome b) a h = go (same a b) refl h
  where
    go : (t : Bool) → same a b ≡ t → (t || same a home) ≡ true → (a ≡ b) ⊎ (a ≡ home)
    go true q h = inl (same-equal a b q)
    go false q h = inr (same-equal a home h)

or_right : (t u : Bool) → u ≡ true → (t || u) ≡ true
or_right true u h = refl
or_right false u h = h

as-allows : (e : Acts) (a : Action) → As e a → allows e a ≡ true
as-allows Any a h = refl
as-allows (This b) a h = equal-same a b h
as-allows (OrHome b) a (inl h) = rw (equal-same a b h) refl
as-allows (OrHome b) a (inr h) = or_right (same a b) (same a home) (equal-same a home h)

pub fits-stands : (i : Item) → fits i ≡ true → Stands i
fits-stands i h =
    let e = expects i.role in
    let p = both (eqb e.size.0 i.found.size.0) (allows e.acts i.found.action) h in
    let z : i.found.size.0 ≡ e.size.0 = sym (eqb-true _ _ p.0) in
    record { size = ap (λ n. record { 0 = n }) z; does = allows-as e.acts i.found.action p.1 }

pub stands-fits : (i : Item) → Stands i → fits i ≡ true
stands-fits i h =
    let e = expects i.role in
    rw (eq-eqb e.size.0 i.found.size.0 (sym (ap (λ (z : Halfwords). z.0) h.size)), as-allows e.acts i.found.action h.does) refl

differ : {A : Type 0} (o : ℕ) → differs o ≡ Ok tt → A
differ o h = absurd (let z : ◌≡◌ {A = ℕ} 0 1 = cc in omega arith)

agree : {A : Type 0} (o : ℕ) → ◌≡◌ {A = Compared} (Ok tt) (differs o) → A
agree o h = absurd (let z : ◌≡◌ {A = ℕ} 0 1 = cc in omega arith)

abbrev offset_of : Compared → ℕ
offset_of (Ok u) = 0
offset_of (Err d) = d.0

false-true : {A : Type 0} → false ≡ true → A
false-true h = absurd (let z : ◌≡◌ {A = ℕ} 0 1 = cc in omega arith)

pub same-all : (is : List Item) → compared is ≡ Ok tt → AllStand is
unfolding compared
same-all [] h = tt
same-all (i ∷ is) h = go (fits i) refl h (same-all is)
  where
    go : (t : Bool) → fits i ≡ t → (if t then compared is else differs i.offset) ≡ Ok tt → (compared is ≡ Ok tt → AllStand is) → Stands i × AllStand is
    go true q h ih = (fits-stands i q, ih h)
    go false q h ih = differ i.offset h

pub all_same : (is : List Item) → AllStand is → compared is ≡ Ok tt
unfolding compared
all_same [] h = refl
all_same (i ∷ is) h = rw (stands-fits i h.0) (all_same is h.1)

-- the first that does not fit
pub record First (is : List Item) (o : ℕ) : Type 0 where
  pub before : List Item
  pub first : Item
  pub behind : List Item
  pub all : is ≡ before ++ (first ∷ behind)
  pub stand : AllStand before
  pub other : Stands first → ⊥
  pub at : first.offset ≡ o

pub differs-first : (is : List Item) (o : ℕ) → compared is ≡ differs o → First is o
unfolding compared
differs-first [] o h = agree o h
differs-first (i ∷ is) o h = go (fits i) refl h (differs-first is o)
  where
    go : (t : Bool) → fits i ≡ t → (if t then compared is else differs i.offset) ≡ differs o → (compared is ≡ differs o → First is o) → First (i ∷ is) o
    go true q h ih =
        let f = ih h in
        record { before = i ∷ f.before; first = f.first; behind = f.behind; all = ap (λ l. i ∷ l) f.all; stand = (fits-stands i q, f.stand); other = f.other; at = f.at }
    go false q h ih =
        let z : i.offset ≡ o = ap offset_of h in
        record { before = []; first = i; behind = is; all = refl; stand = tt; other = λ s. false-true (sym q ∙ stands-fits i s); at = z }

pub first-differs : (before : List Item) (i : Item) (behind : List Item) → AllStand before → (Stands i → ⊥) → compared (before ++ (i ∷ behind)) ≡ differs i.offset
unfolding compared
first-differs [] i behind h n = go (fits i) refl
  where
    go : (t : Bool) → fits i ≡ t → (if t then compared behind else differs i.offset) ≡ differs i.offset
    go true q = absurd (n (fits-stands i q))
    go false q = refl
first-differs (j ∷ before) i behind h n = rw (stands-fits j h.0) (first-differs before i behind h.1 n)
