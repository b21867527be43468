-- Skipping codes: one code, and then the rest.
-- Assumes nothing.
use Rattle.std.specs.Prelude.{if◌then◌else◌, None, Some}
use Prim.Native.Nat.{ℕ, zero, suc, ◌+◌, ◌-◌, ◌≤◌, ◌<◌}
use mathlib.Core.Path.{◌≡◌, refl, sym, ap, ap₂, ◌∙◌}
use mathlib.Core.List.{List, [], ◌∷◌}
use lib.ListN.{drop}
use lib.Dec.{leb, eqb}
use native.Mathlib.Omega.{arith}
use borrow.Author.Tests.{ne_eqb, le-leb, lt-leb}
use Rattle.words.specs.Units.{code_bytes}
use Rattle.words.specs.declared.CodeBytes.{CodeBytes}
use Rattle.unwinding.specs.Taking.{Taken, one, last, bad}
use Rattle.unwinding.specs.Skip.{over, skip_from, skip_at}
use Rattle.unwinding.proofs.Scanning.{Takes, drop-behind}

module _ {C : Type 0} (size : C → ℕ) {take : ℕ → List ℕ → Taken C} {bytes : ℕ → ℕ} (t : Takes take bytes) where
  -- to go on after k bytes is to go on from further back
  skip-drop : (s : List ℕ) (a k n : ℕ) → skip_from size take bytes a s k n ≡ skip_from size take bytes (a + k) (drop k s) 0 n
  unfolding skip_from
  skip-drop [] a zero n = ap (λ x. if eqb n 0 then Some (code_bytes x) else None) (omega arith)
  skip-drop [] a (suc k) n = ap (λ x. if eqb n 0 then Some (code_bytes x) else None) (omega arith)
  skip-drop (b ∷ s) a zero n = ap (λ x. skip_from size take bytes x (b ∷ s) 0 n) (omega arith)
  skip-drop (b ∷ s) a (suc k) n = skip-drop s (a + 1) k n ∙ ap (λ x. skip_from size take bytes x (drop k s) 0 n) (omega arith)

  skip_at_lem : (s : List ℕ) (i n : ℕ) → skip_at size take bytes s (code_bytes i) n ≡ skip_from size take bytes i (drop i s) 0 n
  skip_at_lem s i n = skip-drop s 0 i n ∙ ap (λ x. skip_from size take bytes x (drop i s) 0 n) (omega arith)

  -- no bytes: where it stands
  pub skip-none : (s : List ℕ) (i : ℕ) → skip_at size take bytes s (code_bytes i) 0 ≡ Some (code_bytes i)
  unfolding skip_from
  skip-none s i = skip_at_lem s i 0 ∙ go (drop i s)
    where
      go : (l : List ℕ) → skip_from size take bytes i l 0 0 ≡ Some (code_bytes i)
      go [] = ap (λ x. Some (code_bytes x)) (omega arith)
      go (b ∷ l) = refl

  -- some bytes: over what stands there, and on from behind it
  pub skip_step : (s : List ℕ) (i n : ℕ) → (n ≡ 0 → ⊥) → skip_at size take bytes s (code_bytes i) n ≡ over size (take i (drop i s)) n (skip_at size take bytes s)
  unfolding skip_from
  skip_step s i n h = skip_at_lem s i n ∙ go (drop i s) refl
    where
      go : (l : List ℕ) → drop i s ≡ l → skip_from size take bytes i l 0 n ≡ over size (take i l) n (skip_at size take bytes s)
      go [] e = rw (ne_eqb n 0 h, t.empty i) refl
      go (b ∷ l) e = rw (ne_eqb n 0 h) (by-taken (take i (b ∷ l)) refl)
        where
          by-taken :
              (x : Taken C) → take i (b ∷ l) ≡ x
              → over size x n (λ next m. skip_from size take bytes (i + 1) l (bytes b - 1) m) ≡ over size x n (skip_at size take bytes s)
          by-taken (one c next) q =
              let w = t.code i b l c next q in
              let m : ℕ = n - size c in
              let rest : skip_from size take bytes (i + 1) l (bytes b - 1) m ≡ skip_at size take bytes s next m =
              skip-drop l (i + 1) (bytes b - 1) m
              ∙ ap₂ (λ x d. skip_from size take bytes x d 0 m) (omega (arith, w.some)) (drop-behind s i b (bytes b) l e w.some)
              ∙ sym (ap (λ x. skip_at size take bytes s x m) w.behind ∙ skip_at_lem s (i + bytes b) m) in
              ap (λ x. if leb (size c) n then x else None) rest
          by-taken (last z) q = refl
          by-taken (bad j) q = refl

  -- the same by what stands there
  module _ (s : List ℕ) (i n : ℕ) (h : n ≡ 0 → ⊥) where
    skip-over : {x : Taken C} → take i (drop i s) ≡ x → skip_at size take bytes s (code_bytes i) n ≡ over size x n (skip_at size take bytes s)
    skip-over e = skip_step s i n h ∙ ap (λ x. over size x n (skip_at size take bytes s)) e

    pub skip-one : {c : C} {next : CodeBytes} → take i (drop i s) ≡ one c next → size c ≤ n → skip_at size take bytes s (code_bytes i) n ≡ skip_at size take bytes s next (n - size c)
    skip-one {c} e l = skip-over e ∙ rw (le-leb (size c) n l) refl

    pub skip-inside : {c : C} {next : CodeBytes} → take i (drop i s) ≡ one c next → n < size c → skip_at size take bytes s (code_bytes i) n ≡ None
    skip-inside {c} e l = skip-over e ∙ rw (lt-leb (size c) n l) refl

    pub skip-last : {z : ℕ} → take i (drop i s) ≡ last z → skip_at size take bytes s (code_bytes i) n ≡ None
    skip-last e = skip-over e

    pub skip-bad : {j : CodeBytes} → take i (drop i s) ≡ bad j → skip_at size take bytes s (code_bytes i) n ≡ None
    skip-bad e = skip-over e
