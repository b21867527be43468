-- A code list in which one code has a smaller size, on any machine: which ends of it are found where, what passes 6 and 7 still, and what is
-- made of what is left to undo, where that does not tell the two codes apart.
-- Assumes nothing.
use Rattle.std.specs.Prelude.{if◌then◌else◌, Ok, Err, Option, Some}
use Prim.Native.Nat.{ℕ, ◌+◌, ◌-◌, ◌≤◌, ◌<◌, min, max}
use mathlib.Core.Path.{◌≡◌, refl, sym, ap, ◌∙◌}
use mathlib.Core.Logic.{◌⊎◌, inl, inr}
use mathlib.Core.List.{List, [], ◌∷◌, ◌++◌, map}
use mathlib.Core.Bool.{Bool, true, false, ◌&&◌, not}
use lib.Dec.{leb, ltb, eqb}
use lib.ListN.{length, length-append}
use native.Mathlib.Omega.{arith}
use borrow.Author.Tests.{not-true, lt-ltb, le-ltb, le-leb, eq-eqb, ne_eqb, ltb-false, leb-true, leb-false, eqb-true, eqb-false}
use Rattle.words.specs.Units.{code_bytes}
use Rattle.words.specs.declared.CodeBytes.{CodeBytes}
use Rattle.words.specs.declared.Place.{Place}
use Rattle.words.specs.declared.Place.TheVariants.{Prologue, Body}
use Rattle.words.specs.declared.Refusal.TheVariants.{InsideInstruction}
use Rattle.words.specs.Answer.{Res, ◌>>=◌, maybe}
use Rattle.words.proofs.Answers.{bind-same}
use Rattle.words.proofs.Tests.{both}
use Rattle.unwinding.specs.CodeList.{Codes, total, end_of, run}
use Rattle.unwinding.specs.Shape.{Shape}
use Rattle.unwinding.specs.View.{EpilogueOf, View, Stretch, stretch, shared, inside, apart, all_apart, ascending, fits, epilogues, view}
use Rattle.unwinding.specs.Todo.{Todo, left, in_epilogue, in_epilogues, todo}
use Rattle.unwinding.specs.Listed.{InNone}
use Rattle.unwinding.proofs.Ends.{total-step, total-append, end_of-step, end_of-short}
use Rattle.unwinding.proofs.Running.{run_step, run-append}
use Rattle.unwinding.proofs.Places.{apart-not, all_apart_lem, todo-body}

-- ---- a shorter prologue
abbrev up_to : ℕ → Stretch
up_to p = record { from = 0; to = p }

apart-shorter : (p q : ℕ) → q ≤ p → (l : List Stretch) → apart (up_to p) l ≡ true → apart (up_to q) l ≡ true
apart-shorter p q h [] e = refl
apart-shorter p q h (b ∷ l) e =
    let w = both (not (shared (up_to p) b)) (apart (up_to p) l) e in
    let o = ltb-false _ _ (not-true (shared (up_to p) b) w.0) in
    rw (le-ltb _ _ (less o)) (apart-shorter p q h l w.1)
  where
    less : min p b.to ≤ max 0 b.from → min q b.to ≤ max 0 b.from
    less o = omega arith

-- what fits behind a prologue fits behind a shorter one
fits-shorter : {C : Type 0} (span p q : ℕ) (es : List (EpilogueOf C)) → q ≤ p → fits span p es ≡ true → fits span q es ≡ true
fits-shorter span p q es h e =
    let all : List Stretch = map stretch es in
    let starts : Bool = ascending (map (λ x. x.start) es) in
    let a = both (leb p span && inside span all && starts) (apart (up_to p) all && all_apart all) e in
    let b = both (leb p span && inside span all) starts a.0 in
    let c = both (leb p span) (inside span all) b.0 in
    let d = both (apart (up_to p) all) (all_apart all) a.1 in
    let l : q ≤ span = omega (arith, leb-true p span c.0) in
    rw (le-leb q span l, c.1, b.1, apart-shorter p q h all d.0, d.1) refl

-- no epilogue holds an offset of a prologue that it is apart from
none-early : {C : Type 0} (p o : ℕ) (es : List (EpilogueOf C)) → o < p → apart (up_to p) (map stretch es) ≡ true → InNone o es
none-early p o [] h e = tt
none-early p o (x ∷ es) h e =
    let w = both (not (shared (up_to p) (stretch x))) (apart (up_to p) (map stretch es)) e in
    (out w.0 (leb x.start o) (leb (x.start + x.size) o) refl refl, none-early p o es h w.1)
  where
    out : not (shared (up_to p) (stretch x)) ≡ true → (s t : Bool) → leb x.start o ≡ s → leb (x.start + x.size) o ≡ t → (o < x.start) ⊎ (x.start + x.size ≤ o)
    out n false t u v = inl (leb-false _ _ u)
    out n true true u v = inr (leb-true _ _ v)
    out n true false u v = absurd (apart-not (up_to p) (stretch x) o n (omega arith) h (leb-true _ _ u) (leb-false _ _ v))

-- a code and one that is smaller by `extra` bytes, before the same others
pub record Smaller {C : Type 0} (size : C → ℕ) (extra : ℕ) : Type 0 where
  pub old : C
  pub new : C
  pub back : List C
  pub larger : size old ≡ size new + extra
  pub sized : 0 < size new

-- a view with the old code in its list, and a list with the new one in the same place
pub record Placed {C : Type 0} {size : C → ℕ} {extra : ℕ} (r : Smaller size extra) (v : View C) (c : Codes C) : Type 0 where
  pub front : List C
  pub was : v.codes.list ≡ front ++ (r.old ∷ r.back)
  pub is : c.list ≡ front ++ (r.new ∷ r.back)
  pub fragment : Bool
  pub prologue : v.prologue ≡ (if fragment then 0 else total size v.codes.list)

module _ {C : Type 0} {size : C → ℕ} {extra : ℕ} (r : Smaller size extra) where
  abbrev old : C
  old = r.old

  abbrev new : C
  new = r.new

  abbrev back : List C
  back = r.back

  -- ---- running
  pub run-resized :
      {S : Type 0} (step : C → S → Res S) → ((s : S) → step new s ≡ step old s) → (c : List C) (s : S)
      → run step (c ++ (new ∷ back)) s ≡ run step (c ++ (old ∷ back)) s
  run-resized step h c s =
      run-append step c (new ∷ back) s
      ∙ bind-same (run step c s) (run step (new ∷ back)) (run step (old ∷ back)) (λ t. run_step step new back t ∙ ap (λ x. x >>= run step back) (h t) ∙ sym (run_step step old back t))
      ∙ sym (run-append step c (old ∷ back) s)

  pub length-resized : (c : List C) → length (c ++ (new ∷ back)) ≡ length (c ++ (old ∷ back))
  length-resized c = length-append c (new ∷ back) ∙ sym (length-append c (old ∷ back))

  -- what is made of what is left to undo does not tell the codes apart
  abbrev pub Blind : {X : Type 0} → (Todo C → Res X) → Type 0
  Blind f = (p : Place) (c : List C) → f (record { place = p; codes = c ++ (new ∷ back) }) ≡ f (record { place = p; codes = c ++ (old ∷ back) })

  pub total-resized : (c : List C) → total size (c ++ (old ∷ back)) ≡ total size (c ++ (new ∷ back)) + extra
  total-resized c = omega (arith, r.larger, total-append size c (old ∷ back), total-append size c (new ∷ back), total-step size old back, total-step size new back)

  -- ---- the ends of the list
  -- those behind the code: what has no more than their size is one of them
  end_of-until : (x : C) → 0 < size x → (o : ℕ) → o ≤ total size back → (c : List C) → end_of size 0 o (c ++ (x ∷ back)) ≡ end_of size 0 o back
  end_of-until x z o h [] =
      let q : total size (x ∷ back) + 0 ≡ o → ⊥ = λ e. omega (arith, total-step size x back) in
      end_of-step size 0 o x back ∙ rw (ne_eqb _ _ q) refl
  end_of-until x z o h (d ∷ c) =
      let q : total size (d ∷ (c ++ (x ∷ back))) + 0 ≡ o → ⊥ = λ e. omega (arith, total-step size d (c ++ (x ∷ back)), total-append size c (x ∷ back), total-step size x back) in
      end_of-step size 0 o d (c ++ (x ∷ back)) ∙ rw (ne_eqb _ _ q) (end_of-until x z o h c)

  left-until : (p : Place) (o : ℕ) → o ≤ total size back → (c : List C) → left size p 0 o (c ++ (new ∷ back)) ≡ left size p 0 o (c ++ (old ∷ back))
  unfolding left
  left-until p o h c =
      ap (λ x. maybe x (Err InsideInstruction) (λ l. Ok (record { place = p; codes = l })))
      (end_of-until new r.sized o h c ∙ sym (end_of-until old (omega (arith, r.larger, r.sized)) o h c))

  module _ {X : Type 0} (f : Todo C → Res X) (blind : Blind f) where
    abbrev made : Place → Option (List C) → Res X
    made p x = maybe x (Err InsideInstruction) (λ l. Ok (record { place = p; codes = l })) >>= f

    -- a list and one whose size has `extra` bytes more, by what holds behind their first codes
    made-step :
        (p : Place) (o : ℕ) (x y : C) (xs ys : List C) → total size (y ∷ ys) ≡ total size (x ∷ xs) + extra
        → f (record { place = p; codes = x ∷ xs }) ≡ f (record { place = p; codes = y ∷ ys })
        → made p (end_of size 0 o xs) ≡ made p (end_of size 0 (o + extra) ys)
        → made p (end_of size 0 o (x ∷ xs)) ≡ made p (end_of size 0 (o + extra) (y ∷ ys))
    made-step p o x y xs ys k same rest =
        ap (made p) (end_of-step size 0 o x xs) ∙ go (eqb (total size (x ∷ xs) + 0) o) refl ∙ sym (ap (made p) (end_of-step size 0 (o + extra) y ys))
      where
        go :
            (t : Bool) → eqb (total size (x ∷ xs) + 0) o ≡ t
            → made p (if t then Some (x ∷ xs) else end_of size 0 o xs) ≡ made p (if eqb (total size (y ∷ ys) + 0) (o + extra) then Some (y ∷ ys) else end_of size 0 (o + extra) ys)
        go true e =
            let q : total size (y ∷ ys) + 0 ≡ o + extra = omega (arith, k, eqb-true (total size (x ∷ xs) + 0) o e) in
            rw (eq-eqb _ _ q) same
        go false e =
            let q : total size (y ∷ ys) + 0 ≡ o + extra → ⊥ = λ u. eqb-false (total size (x ∷ xs) + 0) o e (omega (arith, k)) in
            rw (ne_eqb _ _ q) rest

    -- the ends that reach the code
    made-behind : (p : Place) (o : ℕ) → total size back < o → (c : List C) → made p (end_of size 0 o (c ++ (new ∷ back))) ≡ made p (end_of size 0 (o + extra) (c ++ (old ∷ back)))
    made-behind p o h [] =
        made-step p o new old back back (total-resized []) (blind p [])
        (ap (made p) (end_of-short size 0 o back (omega arith) ∙ sym (end_of-short size 0 (o + extra) back (omega arith))))
    made-behind p o h (d ∷ c) =
        made-step p o d d (c ++ (new ∷ back)) (c ++ (old ∷ back)) (total-resized (d ∷ c)) (blind p (d ∷ c)) (made-behind p o h c)

    left_behind : (p : Place) (o : ℕ) → total size back < o → (c : List C) → (left size p 0 o (c ++ (new ∷ back)) >>= f) ≡ (left size p 0 (o + extra) (c ++ (old ∷ back)) >>= f)
    unfolding left
    left_behind = made-behind

    -- ---- past the prologue
    epilogues-alike :
        (may : ℕ → Bool) (es : List (EpilogueOf C)) (o : ℕ) (c : List C)
        → (in_epilogues size may es o (c ++ (new ∷ back)) >>= f) ≡ (in_epilogues size may es o (c ++ (old ∷ back)) >>= f)
    unfolding in_epilogues
    epilogues-alike may [] o c = blind Body c
    epilogues-alike may (e ∷ es) o c = go (leb e.start o && ltb o (e.start + e.size)) (epilogues-alike may es o c)
      where
        go :
            (t : Bool) → (in_epilogues size may es o (c ++ (new ∷ back)) >>= f) ≡ (in_epilogues size may es o (c ++ (old ∷ back)) >>= f)
            → ((if t then in_epilogue size may e o else in_epilogues size may es o (c ++ (new ∷ back))) >>= f) ≡ ((if t then in_epilogue size may e o else in_epilogues size may es o (c ++ (old ∷ back))) >>= f)
        go true ih = refl
        go false ih = ih

  -- ---- a view, and what it is with the smaller code
  module _ {v : View C} {c : Codes C} (at : Placed r v c) where
    abbrev pub resized : View C
    resized = record { codes = c; prologue = v.prologue - extra; epilogues = v.epilogues }

    -- `extra` bytes less, if there is a prologue
    prologue-less : (if at.fragment then 0 else total size c.list) ≡ v.prologue - extra
    prologue-less = go at.fragment at.prologue
      where
        go : (t : Bool) → v.prologue ≡ (if t then 0 else total size v.codes.list) → (if t then 0 else total size c.list) ≡ v.prologue - extra
        go true e = omega (arith, e)
        go false e = omega (arith, e, ap (total size) at.was, ap (total size) at.is, total-resized at.front)

    -- it passes 6 and 7 still
    pub view-resized :
        (read : List ℕ → CodeBytes → Res (Codes C)) (s : Shape) → read s.codes (code_bytes 0) ≡ Ok c → epilogues size read s s.scopes ≡ Ok v.epilogues → s.fragment ≡ at.fragment
        → fits s.span v.prologue v.epilogues ≡ true
        → view size read s ≡ Ok resized
    unfolding view
    view-resized read s first others t f =
        rw (first, others, t, prologue-less, fits-shorter s.span v.prologue (v.prologue - extra) v.epilogues (omega arith) f) refl

    module _ (may : ℕ → Bool) where
      -- the last bytes of the prologue that it had are in no epilogue
      pub todo-freed :
          (span o : ℕ) → fits span v.prologue v.epilogues ≡ true → o < v.prologue → v.prologue ≤ o + extra
          → todo size may resized o ≡ Ok (record { place = Body; codes = c.list })
      todo-freed span o f h k = todo-body size may resized o (omega arith) (none-early v.prologue o v.epilogues h (all_apart_lem span v f).prologue)

      module _ {X : Type 0} (f : Todo C → Res X) (blind : Blind f) where
        pub todo-past : (o : ℕ) → v.prologue ≤ o → (todo size may resized o >>= f) ≡ (todo size may v o >>= f)
        unfolding todo
        todo-past o h =
            let k : v.prologue - extra ≤ o = omega arith in
            rw (le-ltb _ _ h, le-ltb _ _ k, at.was, at.is) (epilogues-alike f blind may v.epilogues o at.front)

        pub todo-behind : (o : ℕ) → total size back < o → o + extra < v.prologue → (todo size may resized o >>= f) ≡ (todo size may v (o + extra) >>= f)
        unfolding todo
        todo-behind o h k =
            let l : o < v.prologue - extra = omega arith in
            rw (lt-ltb _ _ k, lt-ltb _ _ l, at.was, at.is) (left_behind f blind Prologue o h at.front)

        pub todo-until : (o : ℕ) → o ≤ total size back → (todo size may resized o >>= f) ≡ (todo size may v o >>= f)
        unfolding todo
        todo-until o h = go at.fragment at.prologue
          where
            go : (t : Bool) → v.prologue ≡ (if t then 0 else total size v.codes.list) → (todo size may resized o >>= f) ≡ (todo size may v o >>= f)
            go true e = todo-past o (omega (arith, e))
            go false e =
                let l : o < v.prologue - extra = omega (arith, e, ap (total size) at.was, total-resized at.front, total-append size at.front (new ∷ back), total-step size new back) in
                let k : o < v.prologue = omega arith in
                rw (lt-ltb _ _ k, lt-ltb _ _ l, at.was, at.is, left-until Prologue o h at.front) refl
