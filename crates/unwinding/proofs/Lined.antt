-- Refusal 7 in one pass (specs/AsCoded/Lined.antt) is what comparing all pairs comes to.
-- Assumes nothing.
use Rattle.std.specs.Prelude.{if◌then◌else◌}
use Prim.Native.Nat.{ℕ, ◌+◌, ◌≤◌, ◌<◌, min, max}
use mathlib.Core.Path.{◌≡◌, refl, sym, ap, subst}
use mathlib.Core.List.{List, ◌∷◌, map, []}
use mathlib.Core.Bool.{Bool, true, false, ◌&&◌, ◌||◌, not}
use lib.Dec.{T, leb, ltb, leb→le, le→leb, ltb→lt, lt→ltb, not_T, T_not}
use native.Mathlib.Omega.{arith}
use borrow.Author.Tests.{leb-true, leb-false}
use Rattle.words.proofs.Tests.{T-both as both, T_and as and, T-same as same}
use Rattle.unwinding.specs.AsCoded.Lined.{empty, reach_of, next, lined}
use Rattle.unwinding.specs.View.{EpilogueOf, Stretch, stretch, shared, inside, apart, all_apart, ascending, fits}

-- ---- what each part says of a stretch and those after it
-- no start is below f, and they ascend
abbrev Above : ℕ → List Stretch → Type 0
Above f [] = Unit {0}
Above f (a ∷ rest) = (f ≤ a.from) × Above (a.from + 1) rest

-- each that is not empty starts at r or after it
abbrev Clear : ℕ → List Stretch → Type 0
Clear r [] = Unit {0}
Clear r (a ∷ rest) = (a.from < a.to → r ≤ a.from) × Clear r rest

above-less : (f g : ℕ) (ss : List Stretch) → f ≤ g → Above g ss → Above f ss
above-less f g [] h w = tt
above-less f g (a ∷ rest) h w = (omega (arith, w.0), w.1)

clear-less : (r q : ℕ) (ss : List Stretch) → r ≤ q → Clear q ss → Clear r ss
clear-less r q [] h w = tt
clear-less r q (a ∷ rest) h w = ((λ z. omega (arith, w.0 z)), clear-less r q rest h w.1)

clear-0 : (ss : List Stretch) → Clear 0 ss
clear-0 [] = tt
clear-0 (a ∷ rest) = ((λ z. omega arith), clear-0 rest)

-- ---- ascending starts
above_of : (x : ℕ) (ss : List Stretch) → T (ascending (x ∷ map (λ a. a.from) ss)) → Above (x + 1) ss
above_of x [] t = tt
above_of x (a ∷ rest) t = let w = both (ltb x a.from) (ascending (a.from ∷ map (λ b. b.from) rest)) t in (omega (arith, ltb→lt x a.from w.0), above_of a.from rest w.1)

ascending-of : (x : ℕ) (ss : List Stretch) → Above (x + 1) ss → T (ascending (x ∷ map (λ a. a.from) ss))
ascending-of x [] w = tt
ascending-of x (a ∷ rest) w = and (ltb x a.from) (ascending (a.from ∷ map (λ b. b.from) rest)) (lt→ltb x a.from (omega (arith, w.0))) (ascending-of a.from rest w.1)

above-0 : (ss : List Stretch) → T (ascending (map (λ a. a.from) ss)) → Above 0 ss
above-0 [] t = tt
above-0 (a ∷ rest) t = (omega arith, above_of a.from rest t)

ascending-0 : (ss : List Stretch) → Above 0 ss → T (ascending (map (λ a. a.from) ss))
ascending-0 [] w = tt
ascending-0 (a ∷ rest) w = ascending-of a.from rest w.1

-- ---- one stretch and those that start at it or after it
apart-empty : (a : Stretch) (ss : List Stretch) → a.to ≤ a.from → T (apart a ss)
apart-empty a [] h = tt
apart-empty a (b ∷ rest) h =
    and (not (shared a b)) (apart a rest) (not_T (shared a b) (λ t. omega (arith, ltb→lt (max a.from b.from) (min a.to b.to) t))) (apart-empty a rest h)

clear_of : (a : Stretch) (ss : List Stretch) → a.from < a.to → Above a.from ss → T (apart a ss) → Clear a.to ss
clear_of a [] n w t = tt
clear_of a (b ∷ rest) n w t =
    let v = both (not (shared a b)) (apart a rest) t in
    ((λ z. clear-one z v.0), clear_of a rest n (above-less a.from (b.from + 1) rest (omega (arith, w.0)) w.1) v.1)
  where
    clear-one : b.from < b.to → T (not (shared a b)) → a.to ≤ b.from
    clear-one z q = go (leb a.to b.from) refl
      where
        go : (x : Bool) → leb a.to b.from ≡ x → a.to ≤ b.from
        go true e = leb-true _ _ e
        go false e = absurd (T_not (shared a b) q (lt→ltb (max a.from b.from) (min a.to b.to) (omega (arith, leb-false a.to b.from e, w.0))))

apart_of : (a : Stretch) (ss : List Stretch) → Above a.from ss → Clear a.to ss → T (apart a ss)
apart_of a [] w v = tt
apart_of a (b ∷ rest) w v =
    and (not (shared a b)) (apart a rest) (not_T (shared a b) (λ t. meets (ltb→lt _ _ t)))
    (apart_of a rest (above-less a.from (b.from + 1) rest (omega (arith, w.0)) w.1) v.1)
  where
    meets : max a.from b.from < min a.to b.to → ⊥
    meets h = let z : b.from < b.to = omega arith in omega (arith, v.0 z, w.0)

-- ---- the one pass and the parts
record Parts (span f r : ℕ) (ss : List Stretch) : Type 0 where
  within : T (inside span ss)
  above : Above f ss
  clear : Clear r ss
  apart' : T (all_apart ss)

parts : (span f r : ℕ) (ss : List Stretch) → T (lined span f r ss) → Parts span f r ss
parts span f r [] t = record { within = tt; above = tt; clear = tt; apart' = tt }
parts span f r (a ∷ rest) t =
    let w = both (next span f r a) (lined span (a.from + 1) (reach_of r a) rest) t in
    let v = both (leb f a.from && leb a.to span) (empty a || leb r a.from) w.0 in
    let u = both (leb f a.from) (leb a.to span) v.0 in
    go (empty a) refl (leb→le _ _ u.0) u.1 v.1 w.1 (λ q. parts span (a.from + 1) q rest)
  where
    go :
        (x : Bool) → empty a ≡ x → f ≤ a.from → T (leb a.to span) → T (x || leb r a.from) → T (lined span (a.from + 1) (if x then r else a.to) rest)
        → ((q : ℕ) → T (lined span (a.from + 1) q rest) → Parts span (a.from + 1) q rest)
        → Parts span f r (a ∷ rest)
    go true e low high free l ih =
        let p = ih r l in
        let h : a.to ≤ a.from = leb-true _ _ e in
        record { within = and (leb a.to span) (inside span rest) high p.within; above = (low, p.above); clear = ((λ z. absurd (omega arith)), p.clear); apart' = and (apart a rest) (all_apart rest) (apart-empty a rest h) p.apart' }
    go false e low high free l ih =
        let p = ih a.to l in
        let h : a.from < a.to = leb-false _ _ e in
        let g : r ≤ a.from = leb→le _ _ free in
        let w : Above a.from rest = above-less a.from (a.from + 1) rest (omega arith) p.above in
        record { within = and (leb a.to span) (inside span rest) high p.within; above = (low, p.above); clear = ((λ z. g), clear-less r a.to rest (omega arith) p.clear); apart' = and (apart a rest) (all_apart rest) (apart_of a rest w p.clear) p.apart' }

lined-of : (span f r : ℕ) (ss : List Stretch) → Parts span f r ss → T (lined span f r ss)
lined-of span f r [] p = tt
lined-of span f r (a ∷ rest) p =
    let i = both (leb a.to span) (inside span rest) p.within in
    let d = both (apart a rest) (all_apart rest) p.apart' in
    go (empty a) refl i.0 i.1 d.0 d.1 (λ q s. lined-of span (a.from + 1) q rest s)
  where
    go :
        (x : Bool) → empty a ≡ x → T (leb a.to span) → T (inside span rest) → T (apart a rest) → T (all_apart rest)
        → ((q : ℕ) → Parts span (a.from + 1) q rest → T (lined span (a.from + 1) q rest))
        → T ((leb f a.from && leb a.to span && (x || leb r a.from)) && lined span (a.from + 1) (if x then r else a.to) rest)
    go true e high ins ap all ih =
        and (leb f a.from && leb a.to span && true) (lined span (a.from + 1) r rest)
        (and (leb f a.from && leb a.to span) true (and (leb f a.from) (leb a.to span) (le→leb _ _ p.above.0) high) tt)
        (ih r (record { within = ins; above = p.above.1; clear = p.clear.1; apart' = all }))
    go false e high ins ap all ih =
        let h : a.from < a.to = leb-false _ _ e in
        let w : Above a.from rest = above-less a.from (a.from + 1) rest (omega arith) p.above.1 in
        and (leb f a.from && leb a.to span && leb r a.from) (lined span (a.from + 1) a.to rest)
        (and (leb f a.from && leb a.to span) (leb r a.from) (and (leb f a.from) (leb a.to span) (le→leb _ _ p.above.0) high) (le→leb _ _ (p.clear.0 h)))
        (ih a.to (record { within = ins; above = p.above.1; clear = clear_of a rest h w ap; apart' = all }))

same-starts : {C : Type 0} (es : List (EpilogueOf C)) → map (λ e. e.start) es ≡ map (λ a. a.from) (map stretch es)
same-starts [] = refl
same-starts (e ∷ es) = ap (λ l. e.start ∷ l) (same-starts es)

-- what `fits` asks is the prologue's end and one pass
pub fits-lined : {C : Type 0} (span p : ℕ) (es : List (EpilogueOf C)) → fits span p es ≡ (leb p span && lined span 0 p (map stretch es))
fits-lined span p es = same (fits span p es) (leb p span && lined span 0 p ss) there back
  where
    ss : List Stretch
    ss = map stretch es

    front : Stretch
    front = record { from = 0; to = p }

    there : T (fits span p es) → T (leb p span && lined span 0 p ss)
    there t =
        let w = both (inside span (front ∷ ss) && ascending (map (λ e. e.start) es)) (all_apart (front ∷ ss)) t in
        let v = both (inside span (front ∷ ss)) (ascending (map (λ e. e.start) es)) w.0 in
        let u = both (leb p span) (inside span ss) v.0 in
        let d = both (apart front ss) (all_apart ss) w.1 in
        let ab : Above 0 ss = above-0 ss (subst (λ l. T (ascending l)) (same-starts es) v.1) in
        and (leb p span) (lined span 0 p ss) u.0 (lined-of span 0 p ss (record { within = u.1; above = ab; clear = clear ab d.0; apart' = d.1 }))
      where
        clear : Above 0 ss → T (apart front ss) → Clear p ss
        clear ab t = go (leb p 0) refl
          where
            go : (x : Bool) → leb p 0 ≡ x → Clear p ss
            go true e = clear-less p 0 ss (leb-true _ _ e) (clear-0 ss)
            go false e = clear_of front ss (leb-false _ _ e) ab t

    back : T (leb p span && lined span 0 p ss) → T (fits span p es)
    back t =
        let w = both (leb p span) (lined span 0 p ss) t in
        let q = parts span 0 p ss w.1 in
        and (inside span (front ∷ ss) && ascending (map (λ e. e.start) es)) (all_apart (front ∷ ss))
        (and (inside span (front ∷ ss)) (ascending (map (λ e. e.start) es)) (and (leb p span) (inside span ss) w.0 q.within) (subst (λ l. T (ascending l)) (sym (same-starts es)) (ascending-0 ss q.above)))
        (and (apart front ss) (all_apart ss) (apart_of front ss q.above q.clear) q.apart')
