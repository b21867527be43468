-- The code at an index, by whether there is a byte and whether the bytes of its code are there.
-- Assumes nothing.
use Prim.Native.Nat.{ℕ, suc, ◌+◌, ◌-◌, ◌≤◌, ◌<◌}
use mathlib.Core.Path.{◌≡◌, sym, ap, ◌∙◌}
use mathlib.Core.List.{List, ◌∷◌}
use lib.ListN.{length, take, drop, get_or, length-drop, drop_of_length-le}
use lib.Seq.{drop-cons}
use native.Mathlib.Omega.{arith}
use borrow.Author.Tests.{le-leb, lt-leb}
use Rattle.words.specs.Units.{code_bytes}
use Rattle.codes.specs.Table.{row_of}
use Rattle.codes.specs.Code.{value, taken, take_from, take_at}
use Rattle.codes.specs.declared.Taken.TheVariants.{Bad}

module _ (s : List ℕ) (i : ℕ) where
  pub take_past : length s ≤ i → take_at s (code_bytes i) ≡ Bad (code_bytes i)
  unfolding take_from
  take_past h = ap (take_from i) (drop_of_length-le s h)

  abbrev b : ℕ
  b = get_or s i 0

  abbrev n : ℕ
  n = (row_of b).bytes

  module _ (h : i < length s) where
    -- what is left there: the first byte, and then the rest
    abbrev left : List ℕ
    left = b ∷ drop (suc i) s

    is-left : drop i s ≡ left
    is-left = drop-cons s i 0 h

    count : length left ≡ length s - i
    count = ap length (sym is-left) ∙ length-drop i s

    pub take_short : length s - i < n → take_at s (code_bytes i) ≡ Bad (code_bytes (length s))
    unfolding take_from
    take_short l =
        let k : length left < n = omega (arith, count) in
        let e : i + length left ≡ length s = omega (arith, count) in
        ap (take_from i) is-left ∙ rw (lt-leb n (length left) k) (ap (λ m. Bad (code_bytes m)) e)

    pub take_whole :
        n ≤ length s - i → take_at s (code_bytes i) ≡ taken i (row_of b) ((row_of b).means (value (take n (drop i s)) 0))
    unfolding take_from
    take_whole l =
        let k : n ≤ length left = omega (arith, count) in
        ap (take_from i) is-left
        ∙ rw (le-leb n (length left) k) (ap (λ t. taken i (row_of b) ((row_of b).means (value (take n t) 0))) (sym is-left))
