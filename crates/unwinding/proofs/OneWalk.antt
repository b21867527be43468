-- Single frames leave one walk: two answers that follow the same ones and leave the rest of the list are one.
-- Assumes nothing.
use Rattle.std.specs.Prelude.{Ok}
use Prim.Native.Nat.{ℕ, ◌+◌, ◌-◌, ◌≤◌, ◌<◌}
use mathlib.Core.Path.{◌≡◌, refl, sym, ap, ◌∙◌, subst}
use mathlib.Core.List.{List}
use mathlib.Core.Bool.{Bool, true, false}
use lib.ListN.{get_or}
use lib.Seq.{get_or-drop, ext_get_or}
use lib.Dec.{ltb}
use native.Mathlib.Omega.{arith}
use borrow.Author.Tests.{ltb-true, ltb-false}
use Rattle.words.specs.declared.Refusal.{Refusal}
use Rattle.unwinding.specs.Trail.{Walker}
use Rattle.unwinding.specs.Singly.{Alone, Walked, WalkedAll, Untouched, reached, codes_run, Why, itself, uncovered, still, Stops, at-end, at-full, at-refusal, Onward, Follows}

module _ (W : Walker) (unwind : W.State → Alone W) where
  open W use {State, Frame, Stop, refused_at}

  -- ---- one stop
  module _ (g : State) (n : ℕ) where
    why-one : {r r' : Refusal} → Why W unwind g n r → Why W unwind g n r' → r ≡ r'
    why-one (itself r e) (itself r' e') = cc
    why-one (itself r e) (uncovered l v p) = absurd (let z : ◌≡◌ {A = ℕ} 0 1 = cc in omega arith)
    why-one (itself r e) (still l v p s) = absurd (let z : ◌≡◌ {A = ℕ} 0 1 = cc in omega arith)
    why-one (uncovered l v p) (itself r' e) = absurd (let z : ◌≡◌ {A = ℕ} 0 1 = cc in omega arith)
    why-one (uncovered l v p) (uncovered l' v' p') = refl
    why-one (uncovered l v p) (still l' v' p' s) = absurd (p' p)
    why-one (still l v p s) (itself r' e) = absurd (let z : ◌≡◌ {A = ℕ} 0 1 = cc in omega arith)
    why-one (still l v p s) (uncovered l' v' p') = absurd (p p')
    why-one (still l v p s) (still l' v' p' s') = refl

    stop-one : {room : ℕ} {s s' : Stop} → Stops W unwind g n room s → Stops W unwind g n room s' → s ≡ s'
    stop-one (at-end l p) (at-end l' p') = refl
    stop-one (at-end l p) (at-full e k) = absurd (k l p)
    stop-one (at-end l p) (at-refusal r e k w) = absurd (k l p)
    stop-one (at-full e k) (at-end l p) = absurd (k l p)
    stop-one (at-full e k) (at-full e' k') = refl
    stop-one (at-full e k) (at-refusal r e' k' w) = absurd (omega arith)
    stop-one (at-refusal r e k w) (at-end l p) = absurd (k l p)
    stop-one (at-refusal r e k w) (at-full e' k') = absurd (omega arith)
    stop-one (at-refusal r e k w) (at-refusal r' e' k' w') = ap (refused_at g) (why-one w w')

    -- a walk that stops at g does not go on there
    no-further : {room : ℕ} {s : Stop} (m : ℕ) → n < m → m ≤ room → (unwind g).verdict ≡ Ok tt → (0 < n → Onward W unwind g) → Stops W unwind g n room s → ⊥
    no-further m l h v o (at-end p e) = (o p).pc-on e
    no-further m l h v o (at-full e k) = omega arith
    no-further m l h v o (at-refusal r e k (itself q w)) = let z : ◌≡◌ {A = ℕ} 0 1 = cc in omega arith
    no-further m l h v o (at-refusal r e k (uncovered p w q)) = (o p).covered q
    no-further m l h v o (at-refusal r e k (still p w q s)) = (o p).moved s

  -- ---- one answer
  walked_one : (a b : Walked W) → a.stop ≡ b.stop → a.frames ≡ b.frames → a.codes ≡ b.codes → a ≡ b
  walked_one a b p q r =
      ap (λ s. record { stop = s; frames = a.frames; codes = a.codes }) p ∙ ap (λ n. record { stop = b.stop; frames = n; codes = a.codes }) q
      ∙ ap (λ n. record { stop = b.stop; frames = b.frames; codes = n }) r

  pub record Same (w w' : WalkedAll W) : Type 0 where
    pub walked : w.walked ≡ w'.walked
    pub listed : (k : ℕ) (none : Frame) → k < w.walked.frames → get_or w.list k none ≡ get_or w'.list k none

  module _ (g : State) (room : ℕ) where
    at_least : (w w' : WalkedAll W) → Follows W unwind g room w → Follows W unwind g room w' → w'.walked.frames ≤ room → w.walked.frames < w'.walked.frames → ⊥
    at_least w w' f f' h l =
        let n = w.walked.frames in
        no-further (reached W unwind g n) n w'.walked.frames l h (f'.given n l) (λ p. f'.on n p l) f.stop

    pub same-walk : (w w' : WalkedAll W) → Follows W unwind g room w → Follows W unwind g room w' → w.walked.frames ≤ room → w'.walked.frames ≤ room → Same w w'
    same-walk w w' f f' h h' =
        let n : w.walked.frames ≡ w'.walked.frames = omega (arith, at_least w w' f f' h', at_least w' w f' f h) in
        record {
          walked = walked_one w.walked w'.walked
              (stop-one (reached W unwind g w.walked.frames) w.walked.frames f.stop
              (subst (λ k. Stops W unwind (reached W unwind g k) k room w'.walked.stop) (sym n) f'.stop))
              n
              (f.codes ∙ ap (codes_run W unwind g) n ∙ sym f'.codes);
          listed = λ k none l. f.shown k none l ∙ sym (f'.shown k none (omega arith));
        }

  -- with the records past those that were listed, which are the lent ones
  module _ (blank : Frame) (l : List Frame) where
    past : (w : WalkedAll W) → Untouched W l w → (i : ℕ) → w.walked.frames ≤ i → get_or w.list i blank ≡ get_or l i blank
    past w u i h =
        let k : ℕ = i - w.walked.frames in
        let e : i ≡ w.walked.frames + k = omega arith in
        ap (λ j. get_or w.list j blank) e ∙ sym (get_or-drop w.walked.frames w.list k blank) ∙ ap (λ (s : List Frame). get_or s k blank) u.rest
        ∙ get_or-drop w.walked.frames l k blank
        ∙ ap (λ j. get_or l j blank) (sym e)

    pub one_answer : (w w' : WalkedAll W) → Same w w' → Untouched W l w → Untouched W l w' → w ≡ w'
    one_answer w w' s p q =
        let lists : w.list ≡ w'.list = ext_get_or blank w.list w'.list (p.long ∙ sym q.long) (λ i h. at i (ltb i w.walked.frames) refl) in
        ap (λ v. record { walked = v; list = w.list }) s.walked ∙ ap (λ v. record { walked = w'.walked; list = v }) lists
      where
        at : (i : ℕ) (b : Bool) → ltb i w.walked.frames ≡ b → get_or w.list i blank ≡ get_or w'.list i blank
        at i true z = s.listed i blank (ltb-true i w.walked.frames z)
        at i false z =
            let h : w.walked.frames ≤ i = ltb-false i w.walked.frames z in
            past w p i h ∙ sym (past w' q i (omega (arith, ap (λ v. v.frames) s.walked)))
