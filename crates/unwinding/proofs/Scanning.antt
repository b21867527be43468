-- One code, and then the rest: what the code list at an index is, by the code that stands there.
-- Assumes nothing.
use Rattle.std.specs.Prelude.{Ok}
use Prim.Native.Nat.{ℕ, zero, suc, ◌+◌, ◌-◌, ◌≤◌, ◌<◌}
use mathlib.Core.Path.{◌≡◌, refl, sym, ap, ap₂, subst, ◌∙◌}
use mathlib.Core.List.{List, [], ◌∷◌, ◌++◌}
use lib.ListN.{length, drop, length-drop}
use lib.Seq.{drop-drop, drop-append_seam}
use native.Mathlib.Omega.{arith}
use Rattle.words.specs.Units.{code_bytes}
use Rattle.words.specs.declared.CodeBytes.{CodeBytes}
use Rattle.words.proofs.Answers.{bind_ok}
use Rattle.unwinding.specs.CodeList.{Codes}
use Rattle.unwinding.specs.Taking.{Taken, one, last, bad, Scan, nothing, follow, scan_from, scan, codes_at}
use Rattle.unwinding.proofs.All.{All}

-- a code taken has the bytes that its first byte says, one or more, and they are there
pub record Present (bytes : ℕ → ℕ) (at b : ℕ) (s : List ℕ) (next : CodeBytes) : Type 0 where
  pub behind : next ≡ code_bytes (at + bytes b)
  pub some : 1 ≤ bytes b
  pub there : bytes b ≤ length (b ∷ s)

-- what is asked of how a machine takes its codes
pub record Takes {C : Type 0} (take : ℕ → List ℕ → Taken C) (bytes : ℕ → ℕ) : Type 0 where
  pub empty : (at : ℕ) → take at [] ≡ bad (code_bytes at)
  pub code : (at b : ℕ) (s : List ℕ) (c : C) (next : CodeBytes) → take at (b ∷ s) ≡ one c next → Present bytes at b s next

-- what is left behind the code that starts with a byte
drop-less : (b : ℕ) (s : List ℕ) (k : ℕ) → 1 ≤ k → drop (k - 1) s ≡ drop k (b ∷ s)
drop-less b s zero h = absurd (let z : 1 ≤ 0 = h in omega arith)
drop-less b s (suc k) h = let e : suc k - 1 ≡ k = omega arith in ap (λ n. drop n s) e

pub drop-behind : (s : List ℕ) (i b k : ℕ) (l : List ℕ) → drop i s ≡ b ∷ l → 1 ≤ k → drop (k - 1) l ≡ drop (i + k) s
drop-behind s i b k l e h = drop-less b l k h ∙ ap (drop k) (sym e) ∙ drop-drop k i s

-- what follows a code lies further on, within the bytes
pub record Onward (s : List ℕ) (i : ℕ) (next : CodeBytes) : Type 0 where
  pub far : i < next.0
  pub near : next.0 ≤ length s

module _ {C : Type 0} {take : ℕ → List ℕ → Taken C} {bytes : ℕ → ℕ} (t : Takes take bytes) where
  -- to go on after k bytes is to go on from further back
  scan-drop : (s : List ℕ) (a k : ℕ) → scan_from take bytes a s k ≡ scan_from take bytes (a + k) (drop k s) 0
  unfolding scan_from
  scan-drop [] a zero = ap (λ n. nothing (code_bytes n)) (omega arith)
  scan-drop [] a (suc k) = ap (λ n. nothing (code_bytes n)) (omega arith)
  scan-drop (b ∷ s) a zero = ap (λ n. scan_from take bytes n (b ∷ s) 0) (omega arith)
  scan-drop (b ∷ s) a (suc k) = scan-drop s (a + 1) k ∙ ap (λ n. scan_from take bytes n (drop k s) 0) (omega arith)

  -- the list at an index is the list at the front of what is left there
  pub scan-at : (s : List ℕ) (i : ℕ) → scan take bytes s (code_bytes i) ≡ scan_from take bytes i (drop i s) 0
  scan-at s i = scan-drop s 0 i ∙ ap (λ n. scan_from take bytes n (drop i s) 0) (omega arith)

  -- one code, and then the rest
  pub scan_step : (s : List ℕ) (i : ℕ) → scan take bytes s (code_bytes i) ≡ follow (take i (drop i s)) (scan take bytes s)
  unfolding scan_from
  scan_step s i = scan-at s i ∙ go (drop i s) refl
    where
      go : (l : List ℕ) → drop i s ≡ l → scan_from take bytes i l 0 ≡ follow (take i l) (scan take bytes s)
      go [] e = ap (λ n. nothing (code_bytes n)) (let z : i + 0 ≡ i = omega arith in z) ∙ sym (ap (λ x. follow x (scan take bytes s)) (t.empty i))
      go (b ∷ l) e = by-taken (take i (b ∷ l)) refl
        where
          by-taken : (x : Taken C) → take i (b ∷ l) ≡ x → follow x (λ next. scan_from take bytes (i + 1) l (bytes b - 1)) ≡ follow x (scan take bytes s)
          by-taken (one c next) q =
              let w = t.code i b l c next q in
              let rest : scan_from take bytes (i + 1) l (bytes b - 1) ≡ scan take bytes s next =
              scan-drop l (i + 1) (bytes b - 1)
              ∙ ap₂ (λ m d. scan_from take bytes m d 0) (omega (arith, w.some)) (drop-behind s i b (bytes b) l e w.some)
              ∙ sym (ap (scan take bytes s) w.behind ∙ scan-at s (i + bytes b)) in
              ap (λ (r : Scan C). record { list = c ∷ r.list; ending = r.ending }) rest
          by-taken (last n) q = refl
          by-taken (bad j) q = refl

  -- a code in front of other bytes
  pub scan-front :
      (at b : ℕ) (l rest : List ℕ) {c : C} {next : CodeBytes} → take at (b ∷ (l ++ rest)) ≡ one c next → bytes b ≡ length (b ∷ l)
      → scan_from take bytes at (b ∷ (l ++ rest)) 0
      ≡ (let r = scan_from take bytes (at + length (b ∷ l)) rest 0 in record { list = c ∷ r.list; ending = r.ending })
  unfolding scan_from
  scan-front at b l rest {c} {next} e n =
      let k : bytes b - 1 ≡ length l = omega arith in
      ap (λ x. follow x (λ j. scan_from take bytes (at + 1) (l ++ rest) (bytes b - 1))) e
      ∙ ap (λ (r : Scan C). record { list = c ∷ r.list; ending = r.ending })
      (ap (scan_from take bytes (at + 1) (l ++ rest)) k
      ∙ scan-drop (l ++ rest) (at + 1) (length l)
      ∙ ap₂ (λ m d. scan_from take bytes m d 0) (omega arith) (drop-append_seam l rest))

  pub take_next : (s : List ℕ) (i : ℕ) {c : C} {next : CodeBytes} → take i (drop i s) ≡ one c next → Onward s i next
  take_next s i {c} {next} h = go (drop i s) refl h
    where
      go : (l : List ℕ) → drop i s ≡ l → take i l ≡ one c next → Onward s i next
      go [] e q = absurd (let z : ◌≡◌ {A = ℕ} 0 1 = cc (t.empty i) in omega arith)
      go (b ∷ l) e q =
          let w = t.code i b l c next q in
          let n : next.0 ≡ i + bytes b = ap (λ x. x.0) w.behind in
          let k : length (b ∷ l) ≡ length s - i = sym (ap length e) ∙ length-drop i s in
          record { far = omega (arith, w.some); near = omega (arith, w.some, w.there) }

  -- what holds at an index if it holds behind the code that stands there, if any, holds at each
  module _ (s : List ℕ) (P : ℕ → Type 0) (step : (i : ℕ) → ((c : C) (next : CodeBytes) → take i (drop i s) ≡ one c next → P next.0) → P i) where
    within : (f i : ℕ) → length s - i ≤ f → P i
    within zero i b = step i (λ c next e. let m = take_next s i e in absurd (omega (arith, m.far, m.near)))
    within (suc f) i b = step i (λ c next e. let m = take_next s i e in within f next.0 (omega (arith, m.far, m.near)))

    pub by_codes : (i : ℕ) → P i
    by_codes i = within (length s - i) i (omega arith)

  -- the same of what the code list at an index is
  pub by-scan :
      (s : List ℕ) (P : ℕ → Scan C → Type 0)
      → ((i : ℕ) (c : C) (next : CodeBytes) (r : Scan C) → take i (drop i s) ≡ one c next → P next.0 r → P i (record { list = c ∷ r.list; ending = r.ending }))
      → ((i n : ℕ) → take i (drop i s) ≡ last n → P i (record { list = []; ending = Ok n }))
      → ((i : ℕ) (j : CodeBytes) → take i (drop i s) ≡ bad j → P i (nothing j))
      → (i : CodeBytes) → P i.0 (scan take bytes s i)
  by-scan s P f g h i = by_codes s (λ j. P j (scan take bytes s (code_bytes j))) here i.0
    where
      here : (j : ℕ) → ((c : C) (next : CodeBytes) → take j (drop j s) ≡ one c next → P next.0 (scan take bytes s next)) → P j (scan take bytes s (code_bytes j))
      here j ih = subst (P j) (sym (scan_step s j)) (go (take j (drop j s)) refl)
        where
          go : (x : Taken C) → take j (drop j s) ≡ x → P j (follow x (scan take bytes s))
          go (one c next) e = f j c next (scan take bytes s next) e (ih c next e)
          go (last n) e = g j n e
          go (bad k) e = h j k e

  -- a list has no more codes than bytes
  pub scan-length : (s : List ℕ) (i : CodeBytes) → length (scan take bytes s i).list ≤ length s - i.0
  scan-length s i =
      by-scan s (λ j x. length x.list ≤ length s - j)
      (λ j c next r e ih. let m = take_next s j e in omega (arith, m.far, m.near)) (λ j n e. omega arith) (λ j k e. omega arith) i

  -- what holds of each code taken holds of each code of a list
  pub codes_all :
      (P : C → Type 0) (s : List ℕ) → ((i : ℕ) (c : C) (next : CodeBytes) → take i (drop i s) ≡ one c next → P c)
      → (i : CodeBytes) (c : Codes C) → codes_at take bytes s i ≡ Ok c → All P c.list
  codes_all P s f i c h =
      let e = bind_ok (scan take bytes s i).ending _ c h in
      let z : record { list = (scan take bytes s i).list; end_size = e.0 } ≡ c = cc e.2 in
      subst (All P) (ap (λ (x : Codes C). x.list) z)
      (by-scan s (λ j x. All P x.list) (λ j a next r q ih. (f j a next q, ih)) (λ j n q. tt) (λ j k q. tt) i)
