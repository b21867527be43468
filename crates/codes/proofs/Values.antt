-- Bytes of a list as one number, later bytes lower: the first byte, and one byte more.
-- Assumes nothing.
use Prim.Native.Nat.{ℕ, ◌+◌, ◌*◌, ◌<◌}
use mathlib.Core.Path.{◌≡◌, refl, sym, ap, ap₂, ◌∙◌}
use mathlib.Core.List.{List, [], ◌∷◌, ◌++◌}
use lib.ListN.{length, take, drop, get_or, length-drop}
use lib.Seq.{take-suc, get_or-drop}
use native.Mathlib.Omega.{arith}
use native.Mathlib.Numerals.{add-one}
use Rattle.codes.specs.Code.{value}

value-last : (s : List ℕ) (x v : ℕ) → value (s ++ (x ∷ [])) v ≡ 256 * value s v + x
unfolding value
value-last [] x v = refl
value-last (b ∷ s) x v = value-last s x (256 * v + b)

-- the n bytes from i on
module _ (s : List ℕ) (i : ℕ) where
  abbrev pub bytes : (n : ℕ) → ℕ
  bytes n = value (take n (drop i s)) 0

  pub bytes-more : (k v x : ℕ) → i + k < length s → v ≡ bytes k → x ≡ get_or s (i + k) 0 → 256 * v + x ≡ bytes (k + 1)
  bytes-more k v x h p q =
      let l : k < length (drop i s) = rw (length-drop) (omega arith) in
      ap₂ (λ v x. 256 * v + x) p (q ∙ sym (get_or-drop i s k 0))
      ∙ sym (ap (λ x. value x 0) (ap (λ n. take n (drop i s)) (add-one k) ∙ take-suc (drop i s) k 0 l) ∙ value-last (take k (drop i s)) (get_or (drop i s) k 0) 0)

  pub bytes_one : (x : ℕ) → i < length s → x ≡ get_or s i 0 → x ≡ bytes 1
  unfolding value
  bytes_one x h q =
      let f : i ≡ i + 0 = omega arith in
      let e : x ≡ 256 * 0 + x = omega arith in
      e ∙ bytes-more 0 0 x (omega arith) refl (q ∙ ap (λ k. get_or s k 0) f)
