-- Where the pc stands by its offset, and which codes are left to undo there: those of the instructions done in the prologue, all of
-- them in the body, those of the instructions to come in an epilogue.
-- Assumes nothing.
use Rattle.std.specs.Prelude.{if◌then◌else◌, Ok}
use Prim.Native.Nat.{ℕ, ◌+◌, ◌-◌, ◌≤◌, ◌<◌, min, max}
use mathlib.Core.Path.{◌≡◌, refl, ap, ◌∙◌}
use mathlib.Core.Bool.{Bool, true, false, ◌&&◌, not}
use mathlib.Core.Logic.{◌⊎◌, inl, inr}
use mathlib.Core.List.{List, [], ◌∷◌, ◌++◌, map}
use lib.Dec.{leb, ltb}
use native.Mathlib.Omega.{arith}
use borrow.Author.Tests.{lt-ltb, le-ltb, le-leb, lt-leb, ltb-true, ltb-false, leb-true}
use Rattle.words.specs.declared.Place.{Place}
use Rattle.words.specs.declared.Place.TheVariants.{Prologue, Body, Epilogue}
use Rattle.unwinding.specs.CodeList.{total}
use Rattle.unwinding.specs.View.{EpilogueOf, View, Stretch, stretch, shared, inside, apart, all_apart, ascending, fits}
use Rattle.unwinding.specs.Todo.{left, in_epilogue, in_epilogues, todo}
use Rattle.unwinding.specs.Listed.{Of, here, later, InNone}
use Rattle.unwinding.specs.declared.Scope.{Scope}
use Rattle.unwinding.proofs.All.{Sized}
use Rattle.unwinding.proofs.Ends.{total-append, end_of-boundary}
use Rattle.words.proofs.Tests.{both}

-- ---- stretches that are apart
-- two that are apart hold no offset together
pub apart-not : (a b : Stretch) (o : ℕ) → not (shared a b) ≡ true → a.from ≤ o → o < a.to → b.from ≤ o → o < b.to → ⊥
apart-not a b o h p q r s =
    let m : max a.from b.from < min a.to b.to = omega arith in
    let z : not (shared a b) ≡ false = rw (lt-ltb _ _ m) refl in
    let y : ◌≡◌ {A = ℕ} 0 1 = cc in
    omega arith

apart_of :
    {C : Type 0} {sc : Scope} {ex : EpilogueOf C} {scs : List Scope} {exs : List (EpilogueOf C)} (a : Stretch) → Of sc ex scs exs → apart a (map stretch exs) ≡ true
    → not (shared a (stretch ex)) ≡ true
apart_of {ex} a (here {exs = exs}) h = (both (not (shared a (stretch ex))) (apart a (map stretch exs)) h).0
apart_of a (later {b = b} {exs = exs} m) h = apart_of a m (both (not (shared a (stretch b))) (apart a (map stretch exs)) h).1

-- the prologue and the epilogues are apart
pub record Apart {C : Type 0} (v : View C) : Type 0 where
  pub prologue : apart (record { from = 0; to = v.prologue }) (map stretch v.epilogues) ≡ true
  pub epilogues : all_apart (map stretch v.epilogues) ≡ true

pub all_apart_lem : {C : Type 0} (span : ℕ) (v : View C) → fits span v.prologue v.epilogues ≡ true → Apart v
all_apart_lem span v h =
    let all : List Stretch = record { from = 0; to = v.prologue } ∷ map stretch v.epilogues in
    let a = both (inside span all && ascending (map (λ e. e.start) v.epilogues)) (all_apart all) h in
    let b = both (apart (record { from = 0; to = v.prologue }) (map stretch v.epilogues)) (all_apart (map stretch v.epilogues)) a.1 in
    record { prologue = b.0; epilogues = b.1 }

module _ {C : Type 0} (size : C → ℕ) where
  -- at an instruction boundary what is left is found
  pub left-boundary :
      (p : Place) (after n : ℕ) (skipped done : List C) → Sized size skipped → total size done + after ≡ n
      → left size p after n (skipped ++ done) ≡ Ok (record { place = p; codes = done })
  unfolding left
  left-boundary p after n skipped done z h = rw (end_of-boundary size after n skipped done z h) refl

module _ {C : Type 0} (size : C → ℕ) (may : ℕ → Bool) where
  -- ---- in the prologue
  pub todo-prologue :
      (v : View C) (ahead done : List C) → v.codes.list ≡ ahead ++ done → Sized size ahead → total size done < v.prologue
      → todo size may v (total size done) ≡ Ok (record { place = Prologue; codes = done })
  unfolding todo
  todo-prologue v ahead done e p h =
      let q : total size done + 0 ≡ total size done = omega arith in
      rw (lt-ltb _ _ h, e) (left-boundary size Prologue 0 (total size done) ahead done p q)

  -- ---- in no epilogue
  epilogues-none : (es : List (EpilogueOf C)) (o : ℕ) (cs : List C) → InNone o es → in_epilogues size may es o cs ≡ Ok (record { place = Body; codes = cs })
  unfolding in_epilogues
  epilogues-none [] o cs h = refl
  epilogues-none (e ∷ es) o cs h = ap (λ t. if t then in_epilogue size may e o else in_epilogues size may es o cs) (out h.0) ∙ epilogues-none es o cs h.1
    where
      out : (o < e.start) ⊎ (e.start + e.size ≤ o) → (leb e.start o && ltb o (e.start + e.size)) ≡ false
      out (inl l) = rw (lt-leb _ _ l) refl
      out (inr l) = go (leb e.start o)
        where
          go : (t : Bool) → (t && ltb o (e.start + e.size)) ≡ false
          go true = le-ltb _ _ l
          go false = refl

  pub todo-body : (v : View C) (o : ℕ) → v.prologue ≤ o → InNone o v.epilogues → todo size may v o ≡ Ok (record { place = Body; codes = v.codes.list })
  unfolding todo
  todo-body v o h n = rw (le-ltb _ _ h) (epilogues-none v.epilogues o v.codes.list n)

  -- ---- in an epilogue
  pub epilogue-boundary :
      (e : EpilogueOf C) (o : ℕ) (done rest : List C) → e.codes.list ≡ done ++ rest → Sized size done → may e.condition ≡ true
      → total size rest + e.codes.end_size ≡ e.start + e.size - o
      → in_epilogue size may e o ≡ Ok (record { place = Epilogue; codes = rest })
  unfolding in_epilogue
  epilogue-boundary e o done rest split z c h =
      rw (split, left-boundary size Epilogue e.codes.end_size (e.start + e.size - o) done rest z h, c) refl

  -- of epilogues that are apart, the one that the offset falls into
  found :
      {sc : Scope} {ex : EpilogueOf C} {scs : List Scope} {exs : List (EpilogueOf C)} (o : ℕ) (cs : List C) → Of sc ex scs exs → all_apart (map stretch exs) ≡ true
      → ex.start ≤ o
      → o < ex.start + ex.size
      → in_epilogues size may exs o cs ≡ in_epilogue size may ex o
  unfolding in_epilogues
  found {ex} o cs (here {exs = exs}) h p q = rw (le-leb _ _ p, lt-ltb _ _ q) refl
  found {ex} o cs (later {b = b} {exs = exs} m) h p q =
      let w = both (apart (stretch b) (map stretch exs)) (all_apart (map stretch exs)) h in
      go (leb b.start o) (ltb o (b.start + b.size)) refl refl (apart_of (stretch b) m w.0) (found o cs m w.1 p q)
    where
      go :
          (s t : Bool) → leb b.start o ≡ s → ltb o (b.start + b.size) ≡ t → not (shared (stretch b) (stretch ex)) ≡ true → in_epilogues size may exs o cs ≡ in_epilogue size may ex o
          → (if s && t then in_epilogue size may b o else in_epilogues size may exs o cs) ≡ in_epilogue size may ex o
      go true true e f n ih = absurd (apart-not (stretch b) (stretch ex) o n (leb-true _ _ e) (ltb-true _ _ f) p q)
      go true false e f n ih = ih
      go false t e f n ih = ih

  pub todo-epilogue :
      {sc : Scope} {ex : EpilogueOf C} {scs : List Scope} (span : ℕ) (v : View C) (done rest : List C) → fits span v.prologue v.epilogues ≡ true
      → Of sc ex scs v.epilogues
      → may ex.condition ≡ true
      → ex.size ≡ total size ex.codes.list + ex.codes.end_size
      → Sized size done
      → ex.codes.list ≡ done ++ rest
      → total size done < ex.size
      → todo size may v (ex.start + total size done) ≡ Ok (record { place = Epilogue; codes = rest })
  unfolding todo
  todo-epilogue {ex} span v done rest f m c z p e h =
      let o : ℕ = ex.start + total size done in
      let a = all_apart_lem span v f in
      let late : v.prologue ≤ o = low a (ltb o v.prologue) refl in
      let n : total size rest + ex.codes.end_size ≡ ex.start + ex.size - o = omega (arith, z, ap (total size) e, total-append size done rest) in
      rw (le-ltb o v.prologue late)
      (found o v.codes.list m a.epilogues (omega arith) (omega arith) ∙ epilogue-boundary ex o done rest e p c n)
    where
      low : Apart v → (t : Bool) → ltb (ex.start + total size done) v.prologue ≡ t → v.prologue ≤ ex.start + total size done
      low a true q =
          absurd
          (let p : Stretch = record { from = 0; to = v.prologue } in
          apart-not p (stretch ex) (ex.start + total size done) (apart_of p m a.prologue) (omega arith) (ltb-true _ _ q) (omega arith) (omega arith))
      low a false q = ltb-false _ _ q
