-- A code list: it is read where it can be read, and else 6 tells the byte that the definition tells.
-- Assumes nothing.
use Rattle.std.specs.Prelude.{Ok, Err}
use Prim.Native.Nat.{ℕ, ◌+◌, ◌≤◌}
use mathlib.Core.Logic.{◌⊎◌, inl, inr}
use mathlib.Core.Path.{◌≡◌, refl, sym, ap, subst, ◌∙◌}
use mathlib.Core.List.{List}
use lib.ListN.{length}
use native.Mathlib.Omega.{arith}
use Rattle.words.specs.Units.{code_bytes}
use Rattle.words.specs.declared.CodeBytes.{CodeBytes}
use Rattle.words.specs.declared.Refusal.{Refusal}
use Rattle.words.specs.declared.Refusal.TheVariants.{BadCodes}
use Rattle.words.specs.Answer.{Res, ◌>>=◌}
use Rattle.unwinding.specs.CodeList.{Codes}
use Rattle.unwinding.specs.Taking.{Scan, follow}
use Rattle.unwinding.proofs.Scanning.{by-scan}
use Rattle.codes.specs.Code.{take_at, seen, scan, codes_at}
use Rattle.codes.specs.declared.Code.{Code}
use Rattle.codes.specs.declared.Meaning.{Meaning}
use Rattle.codes.specs.declared.Meaning.TheVariants.{Does}
use Rattle.codes.specs.declared.Taken.{Taken}
use Rattle.codes.specs.declared.Undo.{Undo}
use Rattle.codes.proofs.Scanning.{takes, scan-by}
use Rattle.bad_byte.specs.Lists.{asked, Whole, Decodes, Reads, BadCode, Bad}
use Rattle.bad_byte.proofs.Codes.{Stands, begins-left, stands, takes_whole, tells-code}

-- what an answer says of the list at an index
abbrev Told : {A : Type 0} → (s : List ℕ) (i : ℕ) → Res A → Type 0
Told s i (Ok a) = Reads s i
Told s i (Err r) = (j : ℕ) × (r ≡ BadCodes (code_bytes j)) × Bad s i j

-- a whole code lies within the bytes
inside : {s : List ℕ} {i : ℕ} {m : Meaning} (w : Whole s i m) → i + asked w.code ≤ length s
inside w = omega (arith, w.there, begins-left w.code)

-- a code in front of a list that cannot be read: behind it the bytes may end, and then they end without an end code
bad-behind : {s : List ℕ} {i j : ℕ} {u : Undo} (w : Whole s i (Does u)) → Bad s (i + asked w.code) j → Bad s i j
bad-behind {s} {i} {u = u} w b = go _ refl b
  where
    -- what decodes behind the code decodes from it
    step : (n k : ℕ) → i + asked w.code ≡ n → Decodes s n k → Decodes s i k
    step n k e d = Decodes.one i k u w (subst (λ (m : ℕ). Decodes s m k) (sym e) d)

    -- an index of its own, so that it can be matched on
    go : (n : ℕ) {j : ℕ} → i + asked w.code ≡ n → Bad s n j → Bad s i j
    go n e (Bad.past h) =
        let q : n ≡ length s = omega (arith, inside w, e) in
        subst (Bad s i) (sym q) (Bad.endless (step n (length s) e (subst (Decodes s n) q (Decodes.none n))))
    go n e (Bad.undefined k d c) = Bad.undefined k (step n k e d) c
    go n e (Bad.cut k d c) = Bad.cut k (step n k e d) c
    go n e (Bad.endless d) = Bad.endless (step n (length s) e d)

bad-at : {s : List ℕ} {i j : ℕ} → BadCode s i j → Bad s i j
bad-at (BadCode.past h) = Bad.past h
bad-at {i = i} (BadCode.undefined w) = Bad.undefined i (Decodes.none i) w
bad-at {i = i} (BadCode.cut c) = Bad.cut i (Decodes.none i) c

module _ (s : List ℕ) where
  told-behind : (i : ℕ) {u : Undo} (w : Whole s i (Does u)) (x : Res ℕ) → Told s (i + asked w.code) x → Told s i x
  told-behind i {u} w (Ok n) t = record { at = t.at; before = Decodes.one i t.at u w t.before; end = t.end }
  told-behind i w (Err r) t = (t.0, t.1, bad-behind w t.2)

  told-scan : (i : CodeBytes) → Told s i.0 (scan s i).ending
  told-scan =
      by-scan takes s (λ i x. Told s i x.ending)
      (λ i c next r e t.
      let w = subst (Stands s i) e (stands s i) in
      told-behind i w.0 r.ending (subst (λ (n : CodeBytes). Told s n.0 r.ending) w.1 t))
      (λ i n e. record { at = i; before = Decodes.none i; end = subst (Stands s i) e (stands s i) })
      (λ i j e. (j.0, refl, bad-at (subst (Stands s i) e (stands s i))))

  -- how the list at an index ends, and the list by its ending
  abbrev ending : ℕ → Res ℕ
  ending i = (scan s (code_bytes i)).ending

  abbrev codes_by : ℕ → Res ℕ → Res (Codes Code)
  codes_by i x = x >>= λ n. Ok (record { list = (scan s (code_bytes i)).list; end_size = n })

  told-codes : (i : ℕ) → Told s i (codes_at s (code_bytes i))
  told-codes i = go (ending i) (told-scan (code_bytes i))
    where
      go : (x : Res ℕ) → Told s i x → Told s i (codes_by i x)
      go (Ok n) t = t
      go (Err r) t = t

  pub list-reads : (i : ℕ) (c : Codes Code) → codes_at s (code_bytes i) ≡ Ok c → Reads s i
  list-reads i c e = subst (Told s i) e (told-codes i)

  pub list_tells : (i : ℕ) (r : Refusal) → codes_at s (code_bytes i) ≡ Err r → (j : ℕ) × (r ≡ BadCodes (code_bytes j)) × Bad s i j
  list_tells i r e = subst (Told s i) e (told-codes i)

  -- ---- and the other way: codes that decode leave the ending to what follows them
  ending-by : (i : ℕ) {x : Taken Code} → take_at s (code_bytes i) ≡ x → ending i ≡ (follow (seen x) (scan s)).ending
  ending-by i e = ap (λ (x : Scan Code). x.ending) (scan-by s (code_bytes i) e)

  same-ending : {i k : ℕ} → Decodes s i k → ending i ≡ ending k
  same-ending (Decodes.none i) = refl
  same-ending (Decodes.one i k u c d) = ending-by i (takes_whole s i c) ∙ same-ending d

  bad-ending : {i k : ℕ} (j : ℕ) → Decodes s i k → BadCode s k j → ending i ≡ Err (BadCodes (code_bytes j))
  bad-ending {k = k} j d b = same-ending d ∙ ending-by k (tells-code s k j b)

  pub reads-list : (i : ℕ) → Reads s i → (c : Codes Code) × (codes_at s (code_bytes i) ≡ Ok c)
  reads-list i r = (_, ap (codes_by i) (same-ending r.before ∙ ending-by r.at (takes_whole s r.at r.end)))

  pub tells-list : (i j : ℕ) → Bad s i j → codes_at s (code_bytes i) ≡ Err (BadCodes (code_bytes j))
  tells-list i j (Bad.past h) = ap (codes_by i) (bad-ending i (Decodes.none i) (BadCode.past h))
  tells-list i j (Bad.undefined k d w) = ap (codes_by i) (bad-ending k d (BadCode.undefined w))
  tells-list i j (Bad.cut k d c) = ap (codes_by i) (bad-ending (length s) d (BadCode.cut c))
  tells-list i j (Bad.endless d) = ap (codes_by i) (bad-ending (length s) d (BadCode.past (omega arith)))

-- ---- so it is one byte, and none where the list can be read
pub bad-once : {s : List ℕ} {i j k : ℕ} → Bad s i j → Bad s i k → j ≡ k
bad-once {s} {i} {j} {k} a b = let e : code_bytes j ≡ code_bytes k = cc (tells-list s i j a, tells-list s i k b) in ap (λ x. x.0) e

pub bad-unread : {s : List ℕ} {i j : ℕ} → Bad s i j → Reads s i → ⊥
bad-unread {s} {i} {j} b r = let z : ◌≡◌ {A = ℕ} 0 1 = cc (tells-list s i j b, (reads-list s i r).1) in omega arith

-- it is within the bytes, or just behind them, or the index itself
pub bad-limit : (s : List ℕ) (i j : ℕ) → Bad s i j → (j ≤ length s) ⊎ (j ≡ i)
bad-limit s i j (Bad.past h) = inr refl
bad-limit s i j (Bad.undefined k d w) = inl (omega (arith, begins-left w.code))
bad-limit s i j (Bad.cut k d c) = inl (omega arith)
bad-limit s i j (Bad.endless d) = inl (omega arith)
