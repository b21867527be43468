-- Sizes of instructions: each code of a list has at most two halfwords and takes a byte at least, so a list's halfwords are no more than
-- twice its bytes.
-- Assumes nothing.
use Rattle.std.specs.Prelude.{Ok, Err}
use Prim.Native.Nat.{ℕ, ◌+◌, ◌-◌, ◌*◌, ◌/◌, ◌≤◌, ◌<◌}
use mathlib.Core.Path.{◌≡◌, refl, sym, ap, ◌∙◌}
use mathlib.Core.List.{List, [], ◌∷◌}
use lib.ListN.{length}
use lib.Dec.{lit<}
use native.Mathlib.Omega.{arith}
use native.Mathlib.Nat.{mul-div_cancel_left}
use Rattle.words.specs.declared.CodeBytes.{CodeBytes}
use Rattle.words.specs.declared.Refusal.{Refusal}
use Rattle.words.specs.Answer.{Res, ◌>>=◌}
use Rattle.unwinding.specs.CodeList.{Codes, total}
use Rattle.unwinding.specs.Taking.{Scan}
use Rattle.unwinding.proofs.All.{Sized}
use Rattle.unwinding.proofs.Ends.{total-empty, total-step}
use Rattle.unwinding.proofs.Scanning.{take_next, by-scan, codes_all}
use Rattle.codes.specs.Code.{size, scan, codes_at, halves}
use Rattle.reader.specs.AsCoded.Reading.{scanned}
use Rattle.codes.specs.declared.Code.{Code}
use Rattle.reader.specs.declared.Ends.{Ends}
use Rattle.codes.proofs.Scanning.{takes, take-size, take_last}

-- each code of a list has an instruction
pub codes-sized : (s : List ℕ) (i : CodeBytes) (c : Codes Code) → codes_at s i ≡ Ok c → Sized size c.list
codes-sized s = codes_all takes (λ c. 0 < size c) s (λ j c next e. omega (arith, (take-size s j e).0))

-- sizes in bytes are twice those in halfwords
pub total-bytes : (cs : List Code) → total size cs ≡ 2 * total halves cs
total-bytes [] = omega (arith, total-empty size, total-empty halves)
total-bytes (c ∷ cs) = omega (arith, total-step size c cs, total-step halves c cs, total-bytes cs)

-- what a pass finds, said of the list in bytes
pub record Measured (s : List ℕ) (i : CodeBytes) (f : Ends) : Type 0 where
  pub list-bytes : total size (scan s i).list ≡ 2 * f.list
  pub end-bytes : (scan s i).ending ≡ Ok (2 * f.end)
  pub few : f.list + f.end ≤ 2 * (length s - i.0)

abbrev Within : List ℕ → ℕ → Scan Code → Type 0
Within s j x = (n : ℕ) → x.ending ≡ Ok n → (n ≡ 2 * (n / 2)) × (total halves x.list + n / 2 ≤ 2 * (length s - j))

within : (s : List ℕ) (i : CodeBytes) → Within s i.0 (scan s i)
within s i =
    by-scan takes s (Within s)
    (λ j c next r e ih n q.
    let m = take_next takes s j e in
    let w = ih n q in
    (w.0, omega (arith, m.far, m.near, w.1, (take-size s j e).1, total-step halves c r.list)))
    (λ j z e n q.
    let l = take_last s j e in
    let p : z ≡ n = cc in
    let d : n / 2 ≡ l.0 = ap (λ x. x / 2) (sym p ∙ l.1) ∙ mul-div_cancel_left l.0 (lit< tt) in
    (omega (arith, d, l.1), omega (arith, d, l.2, l.3, total-empty halves)))
    (λ j k e n q. absurd (let z : ◌≡◌ {A = ℕ} 0 1 = cc in omega arith))
    i

pub scanned-ends : (s : List ℕ) (i : CodeBytes) (f : Ends) → scanned (scan s i) ≡ Ok f → Measured s i f
scanned-ends s i f q = go (scan s i).ending refl q
  where
    go : (x : Res ℕ) → (scan s i).ending ≡ x → scanned (record { list = (scan s i).list; ending = x }) ≡ Ok f → Measured s i f
    go (Ok n) p r =
        let a : record { list = total halves (scan s i).list; end = n / 2 } ≡ f = cc in
        let w = within s i n p in
        record {
          list-bytes = total-bytes (scan s i).list ∙ ap (λ x. 2 * x.list) a;
          end-bytes = p ∙ ap Ok (w.0 ∙ ap (λ x. 2 * x.end) a);
          few = omega (arith, w.1, ap (λ x. x.list) a, ap (λ x. x.end) a);
        }
    go (Err r) p t = absurd (let z : ◌≡◌ {A = ℕ} 0 1 = cc in omega arith)

pub scanned-refused : (s : List ℕ) (i : CodeBytes) (r : Refusal) → scanned (scan s i) ≡ Err r → (scan s i).ending ≡ Err r
scanned-refused s i r q = go (scan s i).ending refl q
  where
    go : (x : Res ℕ) → (scan s i).ending ≡ x → scanned (record { list = (scan s i).list; ending = x }) ≡ Err r → (scan s i).ending ≡ Err r
    go (Ok n) p t = absurd (let z : ◌≡◌ {A = ℕ} 0 1 = cc in omega arith)
    go (Err y) p t = let z : y ≡ r = cc in p ∙ ap Err z

-- so a pass finds what the code list at an index is
pub codes-end : (s : List ℕ) (i : CodeBytes) (f : Ends) → scanned (scan s i) ≡ Ok f → codes_at s i ≡ Ok (record { list = (scan s i).list; end_size = 2 * f.end })
codes-end s i f q = ap (λ x. x >>= λ n. Ok (record { list = (scan s i).list; end_size = n })) (scanned-ends s i f q).end-bytes

pub codes-refused : (s : List ℕ) (i : CodeBytes) (r : Refusal) → scanned (scan s i) ≡ Err r → codes_at s i ≡ Err r
codes-refused s i r q = ap (λ x. x >>= λ n. Ok (record { list = (scan s i).list; end_size = n })) (scanned-refused s i r q)
