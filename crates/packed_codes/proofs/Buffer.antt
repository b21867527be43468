-- Writing code bytes: one list and then another is both joined, and up to 16 bytes stand before zeros.
-- Assumes nothing.
use Prim.Native.Nat.{ℕ, zero, suc, ◌+◌, ◌-◌, ◌≤◌, ◌<◌}
use mathlib.Core.Path.{◌≡◌, refl, sym, ap, ◌∙◌}
use mathlib.Core.List.{List, [], ◌∷◌, ◌++◌, append-nil}
use lib.ListN.{length, take, replicate, set, length-append}
use lib.Seq.{set-append_seam, append_snoc, take-append-add}
use native.Mathlib.Omega.{arith}
use borrow.Author.Tests.{lt-ltb}
use Rattle.packed_codes.specs.declared.Out.{Out}
use Rattle.packed_codes.specs.AsCoded.Out.{put_of, puts}

-- one piece after another
pub joined : (o : Out) {x y : Out} (a b : List ℕ) → x ≡ puts o a → y ≡ puts x b → y ≡ puts o (a ++ b)
unfolding puts
joined o [] b e f = f ∙ ap (λ x. puts x b) e
joined o (c ∷ a) b e f = joined (put_of o c) a b e f

-- a piece that is not there
pub nothing : (o : Out) {a : List ℕ} → a ≡ [] → o ≡ puts o a
unfolding puts
nothing o e = ap (puts o) (sym e)

-- the bytes of a list that was written on a blank
abbrev pub holding : List ℕ → Out
holding l = record { bytes = l ++ replicate (16 - length l) 0; len = length l }

put-holding : (l : List ℕ) (b : ℕ) → length l < 16 → put_of (holding l) b ≡ holding (l ++ (b ∷ []))
unfolding put_of
put-holding l b h =
    let one : length (l ++ (b ∷ [])) ≡ length l + 1 = length-append l (b ∷ []) in
    let left : ℕ = 16 - length (l ++ (b ∷ [])) in
    let room : 16 - length l ≡ suc left = omega arith in
    let bytes : set (l ++ replicate (16 - length l) 0) (length l) b ≡ l ++ (b ∷ []) ++ replicate left 0 =
    ap (λ k. set (l ++ replicate k 0) (length l) b) room ∙ set-append_seam l 0 (replicate left 0) b ∙ sym (append_snoc l b (replicate left 0)) in
    rw (lt-ltb (length l) 16 h) (λ i. record { bytes = bytes i; len = sym one i })

pub puts-holding : (a l : List ℕ) → length a + length l ≤ 16 → puts (holding a) l ≡ holding (a ++ l)
unfolding puts
puts-holding a [] h = ap holding (sym (append-nil a))
puts-holding a (b ∷ l) h =
    let one : length (a ++ (b ∷ [])) ≡ length a + 1 = length-append a (b ∷ []) in
    ap (λ o. puts o l) (put-holding a b (omega arith)) ∙ puts-holding (a ++ (b ∷ [])) l (omega arith) ∙ ap holding (append_snoc a b l)

take-zeros : (n m : ℕ) → n ≤ m → take {A = ℕ} n (replicate m 0) ≡ replicate n 0
take-zeros zero m h = refl
take-zeros (suc n) zero h = absurd (let z : suc n ≤ 0 = h in omega arith)
take-zeros (suc n) (suc m) h = ap (λ (l : List ℕ). 0 ∷ l) (take-zeros n m (omega arith))

-- 16 bytes of a list and of zeros after it
pub holding-bytes : (l : List ℕ) → length l ≤ 16 → take 16 (l ++ replicate 16 0) ≡ (holding l).bytes
holding-bytes l h =
    let e : 16 ≡ length l + (16 - length l) = omega arith in
    ap (λ n. take n (l ++ replicate 16 0)) e ∙ take-append-add l (replicate 16 0) (16 - length l)
    ∙ ap (λ z. l ++ z) (take-zeros (16 - length l) 16 (omega arith))
