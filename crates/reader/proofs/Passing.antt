-- A pass over a code list: what is found from an index on, with the halfwords before it, stays the same from code to code.
-- Assumes nothing.
use Rattle.std.specs.Prelude.{Ok, Err}
use Prim.Native.Nat.{ℕ, ◌+◌, ◌/◌, ◌≤◌, ◌<◌}
use mathlib.Core.Path.{◌≡◌, refl, sym, ap, ap₂, ◌∙◌}
use mathlib.Core.List.{List, [], ◌∷◌}
use lib.ListN.{length}
use lib.Dec.{lit<}
use native.Mathlib.Omega.{arith}
use native.Mathlib.Nat.{mul-div_cancel_left}
use Rattle.words.specs.declared.CodeBytes.{CodeBytes}
use Rattle.words.specs.declared.Halfwords.{Halfwords}
use Rattle.words.specs.declared.Refusal.TheVariants.{BadCodes}
use Rattle.words.specs.Answer.{Res, ◌>>=◌}
use Rattle.unwinding.specs.CodeList.{total}
use Rattle.unwinding.specs.Taking.{Taken, follow}
use Rattle.unwinding.proofs.Ends.{total-empty, total-step}
use Rattle.unwinding.proofs.Scanning.{take_next, scan_step}
use Rattle.codes.specs.Code.{take_at, seen, scan, halves}
use Rattle.codes.specs.AsCoded.Sizing.{sized}
use Rattle.codes.specs.declared.Code.{Code}
use Rattle.codes.specs.declared.Taken.TheVariants.{One, Last, Bad}
use Rattle.codes.proofs.Scanning.{takes, take-size}
use Rattle.codes.proofs.Sizing.{told-one, told-last, told-bad}
use Rattle.reader.specs.AsCoded.Reading.{scanned}
use Rattle.reader.specs.declared.Ends.{Ends}

-- with h halfwords before it
abbrev pub plus : ℕ → Res Ends → Res Ends
plus h x = x >>= λ e. Ok (record { list = h + e.list; end = e.end })

pub plus_none : (x : Res Ends) → plus 0 x ≡ x
plus_none (Ok e) = ap (λ n. Ok (record { list = n; end = e.end })) (omega arith)
plus_none (Err r) = refl

module _ (m : List ℕ) (h : ℕ) (i : CodeBytes) where
  -- what is found from here on, by what stands here
  found : {x : Taken Code} → seen (take_at m i) ≡ x → plus h (scanned (scan m i)) ≡ plus h (scanned (follow x (scan m)))
  found e = ap (λ x. plus h (scanned x)) (scan_step takes m i.0 ∙ ap (λ x. follow x (scan m)) e)

  module _ {z : Halfwords} {next : CodeBytes} (e : sized (take_at m i) ≡ One z next) where
    pub found-one : plus (h + z.0) (scanned (scan m next)) ≡ plus h (scanned (scan m i))
    found-one = let w = told-one m i e in ap (λ (z : Halfwords). plus (h + z.0) (scanned (scan m next))) (sym w.2) ∙ go w.0 (scan m next).ending ∙ sym (found w.1)
      where
        go :
            (c : Code) (x : Res ℕ)
            → plus (h + halves c) (scanned (record { list = (scan m next).list; ending = x })) ≡ plus h (scanned (record { list = c ∷ (scan m next).list; ending = x }))
        go c (Ok n) =
            let k : h + halves c + total halves (scan m next).list ≡ h + total halves (c ∷ (scan m next).list) = omega (arith, total-step halves c (scan m next).list) in
            ap (λ k. Ok (record { list = k; end = n / 2 })) k
        go c (Err r) = refl

    -- the index grows with each code, and twice the index bounds the halfwords
    pub nearer : (i.0 < next.0) × (next.0 ≤ length m) × (z.0 ≤ 2)
    nearer =
        let w = told-one m i e in
        let n = take_next takes m i.0 w.1 in
        (n.far, n.near, omega (arith, ap (λ (z : Halfwords). z.0) w.2, (take-size m i.0 w.1).1))

  pub found-last : {z : Halfwords} → sized (take_at m i) ≡ Last z → Ok (record { list = h; end = z.0 }) ≡ plus h (scanned (scan m i))
  found-last {z} e =
      let k : h ≡ h + total halves [] = omega (arith, total-empty halves) in
      ap₂ (λ k n. Ok (record { list = k; end = n })) k (sym (mul-div_cancel_left z.0 (lit< tt))) ∙ sym (found (told-last m i e))

  pub found-bad : {j : CodeBytes} → sized (take_at m i) ≡ Bad j → ◌≡◌ {A = Res Ends} (Err (BadCodes j)) (plus h (scanned (scan m i)))
  found-bad e = sym (found (told-bad m i e))
