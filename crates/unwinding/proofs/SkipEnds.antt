-- Skipping and the end of a code list: where the codes skipped and those that are left, with `after` bytes more, take all the bytes there
-- are, what skipping finds is the end of the list that is left.
-- Assumes nothing.
use Rattle.std.specs.Prelude.{Option, None, Some}
use Prim.Native.Nat.{ℕ, ◌+◌, ◌-◌, ◌≤◌, ◌<◌}
use mathlib.Core.Path.{◌≡◌, refl, sym, ap, ◌∙◌}
use mathlib.Core.List.{List, [], ◌∷◌}
use mathlib.Core.Bool.{Bool, true, false}
use lib.Dec.{leb, eqb}
use lib.ListN.{drop}
use native.Mathlib.Omega.{arith}
use borrow.Author.Tests.{ne_eqb, eqb-true, eqb-false, leb-true, leb-false}
use Rattle.words.specs.Units.{code_bytes}
use Rattle.words.specs.declared.CodeBytes.{CodeBytes}
use Rattle.words.specs.Answer.{maybe}
use Rattle.unwinding.specs.CodeList.{total, end_of}
use Rattle.unwinding.specs.Taking.{Taken, one, last, bad, follow, scan}
use Rattle.unwinding.specs.Skip.{skip_at}
use Rattle.unwinding.proofs.Ends.{total-empty, total-step, end_of-empty, end_of-step, end_of-whole, end_of-short}
use Rattle.unwinding.proofs.Scanning.{Takes, by_codes, scan_step}
use Rattle.unwinding.proofs.Skipping.{skip-none, skip-one, skip-inside, skip-last, skip-bad}

-- the codes behind what was skipped
abbrev pub codes_behind : {C : Type 0} → (take : ℕ → List ℕ → Taken C) → (bytes : ℕ → ℕ) → List ℕ → Option CodeBytes → Option (List C)
codes_behind take bytes s x = maybe x None (λ p. Some (scan take bytes s p).list)

module _ {C : Type 0} (size : C → ℕ) {take : ℕ → List ℕ → Taken C} {bytes : ℕ → ℕ} (t : Takes take bytes) (s : List ℕ) where
  -- by what stands at an index
  scan-by : (i : ℕ) {x : Taken C} → take i (drop i s) ≡ x → scan take bytes s (code_bytes i) ≡ follow x (scan take bytes s)
  scan-by i e = scan_step t s i ∙ ap (λ x. follow x (scan take bytes s)) e

  module _ (after n : ℕ) where
    abbrev codes : ℕ → List C
    codes i = (scan take bytes s (code_bytes i)).list

    abbrev Ends : ℕ → ℕ → Type 0
    Ends i k = k + n ≡ total size (codes i) + after → end_of size after n (codes i) ≡ codes_behind take bytes s (skip_at size take bytes s (code_bytes i) k)

    -- nothing to skip
    ends-none : (i k : ℕ) → k ≡ 0 → Ends i k
    ends-none i k z h =
        end_of-whole size after n (codes i) (omega arith)
        ∙ sym (ap (codes_behind take bytes s) (ap (skip_at size take bytes s (code_bytes i)) z ∙ skip-none size t s i))

    -- nothing to take
    ends-empty : (i k : ℕ) → (k ≡ 0 → ⊥) → codes i ≡ [] → skip_at size take bytes s (code_bytes i) k ≡ None → Ends i k
    ends-empty i k z e q h =
        let u : total size (codes i) ≡ 0 = ap (total size) e ∙ total-empty size in
        let l : after ≡ n → ⊥ = λ p. z (omega arith) in
        ap (end_of size after n) e ∙ end_of-empty size after n ∙ rw (ne_eqb after n l) (sym (ap (codes_behind take bytes s) q))

    -- a code, by what holds behind it
    ends-one :
        (i k : ℕ) (c : C) (next : CodeBytes) → (k ≡ 0 → ⊥) → take i (drop i s) ≡ one c next
        → ((m : ℕ) → Ends next.0 m) → Ends i k
    ends-one i k c next z e ih h = go (leb (size c) k) refl
      where
        l : codes i ≡ c ∷ codes next.0
        l = ap (λ x. x.list) (scan-by i e)

        u : total size (codes i) ≡ size c + total size (codes next.0)
        u = ap (total size) l ∙ total-step size c (codes next.0)

        on : end_of size after n (codes i) ≡ end_of size after n (codes next.0)
        on =
            let q : total size (c ∷ codes next.0) + after ≡ n → ⊥ = λ p. z (omega (arith, ap (total size) l)) in
            ap (end_of size after n) l ∙ end_of-step size after n c (codes next.0) ∙ rw (ne_eqb _ _ q) refl

        go : (x : Bool) → leb (size c) k ≡ x → end_of size after n (codes i) ≡ codes_behind take bytes s (skip_at size take bytes s (code_bytes i) k)
        go true p =
            let v : size c ≤ k = leb-true _ _ p in
            on ∙ ih (k - size c) (omega (arith, u)) ∙ sym (ap (codes_behind take bytes s) (skip-one size t s i k z e v))
        go false p =
            let v : k < size c = leb-false _ _ p in
            on ∙ end_of-short size after n (codes next.0) (omega (arith, u)) ∙ sym (ap (codes_behind take bytes s) (skip-inside size t s i k z e v))

    ends-here : (i : ℕ) → ((c : C) (next : CodeBytes) → take i (drop i s) ≡ one c next → (m : ℕ) → Ends next.0 m) → (k : ℕ) → Ends i k
    ends-here i ih k = start (eqb k 0) refl
      where
        by-taken : (k ≡ 0 → ⊥) → (x : Taken C) → take i (drop i s) ≡ x → Ends i k
        by-taken z (one c next) e = ends-one i k c next z e (ih c next e)
        by-taken z (last y) e = ends-empty i k z (ap (λ x. x.list) (scan-by i e)) (skip-last size t s i k z e)
        by-taken z (bad j) e = ends-empty i k z (ap (λ x. x.list) (scan-by i e)) (skip-bad size t s i k z e)

        start : (x : Bool) → eqb k 0 ≡ x → Ends i k
        start true e = ends-none i k (eqb-true k 0 e)
        start false e = by-taken (eqb-false k 0 e) (take i (drop i s)) refl

    -- k bytes of instructions are skipped, and n are left with those after the list
    pub skip-ends :
        (i : CodeBytes) (k : ℕ) → k + n ≡ total size (scan take bytes s i).list + after
        → end_of size after n (scan take bytes s i).list ≡ codes_behind take bytes s (skip_at size take bytes s i k)
    skip-ends i k h = by_codes t s (λ j. (m : ℕ) → Ends j m) ends-here i.0 k h

  abbrev Same : ℕ → ℕ → Type 0
  Same i k = (p : CodeBytes) → skip_at size take bytes s (code_bytes i) k ≡ Some p → (scan take bytes s p).ending ≡ (scan take bytes s (code_bytes i)).ending

  never : (i k : ℕ) → skip_at size take bytes s (code_bytes i) k ≡ None → Same i k
  never i k e p q = absurd (let z : ◌≡◌ {A = ℕ} 0 1 = cc in omega arith)

  same_here : (i : ℕ) → ((c : C) (next : CodeBytes) → take i (drop i s) ≡ one c next → (m : ℕ) → Same next.0 m) → (k : ℕ) → Same i k
  same_here i ih k = start (eqb k 0) refl
    where
      on : (z : k ≡ 0 → ⊥) (c : C) (next : CodeBytes) → take i (drop i s) ≡ one c next → (x : Bool) → leb (size c) k ≡ x → Same i k
      on z c next e true l p q =
          ih c next e (k - size c) p (sym (skip-one size t s i k z e (leb-true _ _ l)) ∙ q) ∙ sym (ap (λ x. x.ending) (scan-by i e))
      on z c next e false l p q = never i k (skip-inside size t s i k z e (leb-false _ _ l)) p q

      by-taken : (k ≡ 0 → ⊥) → (x : Taken C) → take i (drop i s) ≡ x → Same i k
      by-taken z (one c next) e = on z c next e (leb (size c) k) refl
      by-taken z (last y) e = never i k (skip-last size t s i k z e)
      by-taken z (bad j) e = never i k (skip-bad size t s i k z e)

      start : (x : Bool) → eqb k 0 ≡ x → Same i k
      start true e p q =
          let w : Some (code_bytes i) ≡ Some p = sym (ap (skip_at size take bytes s (code_bytes i)) (eqb-true k 0 e) ∙ skip-none size t s i) ∙ q in
          let v : code_bytes i ≡ p = cc in
          ap (λ x. (scan take bytes s x).ending) (sym v)
      start false e p q = by-taken (eqb-false k 0 e) (take i (drop i s)) refl p q

  -- what is skipped to ends as the whole does
  pub skip-ending : (i : CodeBytes) (k : ℕ) (p : CodeBytes) → skip_at size take bytes s i k ≡ Some p → (scan take bytes s p).ending ≡ (scan take bytes s i).ending
  skip-ending i k p e = by_codes t s (λ j. (m : ℕ) → Same j m) same_here i.0 k p e
