-- Which refusal numbers a record's reading can give: 4 and 5 its head and scopes, 6 and 7 its lists.
-- Assumes nothing.
use Rattle.std.specs.Prelude.{if◌then◌else◌, Ok, Err}
use Prim.Native.Nat.{ℕ, zero, suc, ◌+◌}
use mathlib.Core.Path.{◌≡◌, refl, ap, ◌∙◌, subst}
use mathlib.Core.List.{List, [], ◌∷◌}
use mathlib.Core.Bool.{Bool, true, false}
use lib.Dec.{eqb}
use native.Mathlib.Omega.{arith}
use Rattle.words.specs.Bits.{bits}
use Rattle.words.specs.Units.{code_bytes}
use Rattle.words.specs.Refusals.{number}
use Rattle.words.specs.declared.CodeBytes.{CodeBytes}
use Rattle.words.specs.declared.Refusal.{Refusal}
use Rattle.words.specs.declared.Refusal.TheVariants.{Reserved, OutsideXdata, BadCodes, BadLayout}
use Rattle.words.specs.Answer.{Res, ◌>>=◌, ◌>>◌, need}
use Rattle.lent.specs.Lent.{Lent, holds, word_at}
use Rattle.unwinding.specs.CodeList.{total}
use Rattle.unwinding.specs.Shape.{Shape}
use Rattle.unwinding.specs.View.{fits, epilogues, view}
use Rattle.unwinding.specs.declared.Scope.{Scope}
use Rattle.unwinding.proofs.Scanning.{by-scan}
use Rattle.codes.specs.Code.{size, scan, codes_at}
use Rattle.codes.proofs.Scanning.{takes}
use Rattle.packed.specs.Packed.{fields, allowed}
use Rattle.packed_codes.specs.PackedCodes.{write_codes}
use Rattle.xdata.specs.Xdata.{record_bytes, scope_count, short_head, long_head, head_at}
use Rattle.xdata.specs.Scopes.{scopes_at}
use Rattle.record.specs.Record.{full_shape, packed_shape, shape_at}

-- the number of a refusal of this answer is one of those
abbrev pub Only : {A : Type 0} → (ℕ → Type 0) → Res A → Type 0
Only P x = (r : Refusal) → x ≡ Err r → P (number r)

module _ (P : ℕ → Type 0) where
  pub given : {A : Type 0} (a : A) → Only P (Ok a)
  given a r e = absurd (let z : ◌≡◌ {A = ℕ} 0 1 = cc in omega arith)

  pub refused : {A : Type 0} (q : Refusal) → P (number q) → Only {A = A} P (Err q)
  refused q h r e = let z : q ≡ r = cc in subst (λ x. P (number x)) z h

  pub bound : {A B : Type 0} (x : Res A) (f : A → Res B) → Only P x → ((a : A) → Only P (f a)) → Only P (x >>= f)
  bound (Ok a) f h k = k a
  bound (Err q) f h k = refused q (h q refl)

  pub needed : {B : Type 0} (t : Bool) (q : Refusal) (y : Res B) → P (number q) → Only P y → Only P (need t q >> y)
  needed true q y h k = k
  needed false q y h k = refused q h

  pub either_way : {A : Type 0} (t : Bool) (x y : Res A) → Only P x → Only P y → Only P (if t then x else y)
  either_way true x y h k = h
  either_way false x y h k = k

  only-long : P 4 → P 5 → (x : Lent) (a w : ℕ) → Only P (long_head x a w)
  unfolding long_head
  only-long p4 p5 x a w = needed (holds x a 8) OutsideXdata _ p5 (needed (eqb (bits 24 8 (word_at x (a + 4))) 0) Reserved _ p4 (given _))

  pub only-head : P 4 → P 5 → (x : Lent) (a : ℕ) → Only P (head_at x a)
  unfolding head_at
  only-head p4 p5 x a =
      needed (holds x a 4) OutsideXdata _ p5
      (needed (eqb (bits 18 2 (word_at x a)) 0) Reserved _ p4
      (bound (if eqb (bits 23 9 (word_at x a)) 0 then long_head x a (word_at x a) else Ok (short_head (word_at x a))) _
      (either_way (eqb (bits 23 9 (word_at x a)) 0) (long_head x a (word_at x a)) (Ok (short_head (word_at x a))) (only-long p4 p5 x a (word_at x a)) (given (short_head (word_at x a))))
      (λ h. needed (holds x a (record_bytes h)) OutsideXdata _ p5 (given h))))

  only-codes : P 4 → (w : ℕ) → Only P (write_codes w)
  unfolding write_codes
  only-codes p4 w = needed (allowed (fields w)) Reserved _ p4 (given _)

  only-scopes : P 4 → (x : Lent) (a k : ℕ) → Only P (scopes_at x a k)
  unfolding scopes_at
  only-scopes p4 x a zero = given []
  only-scopes p4 x a (suc k) = needed (eqb (bits 18 2 (word_at x a)) 0) Reserved _ p4 (bound (scopes_at x (a + 4) k) _ (only-scopes p4 x (a + 4) k) (λ l. given _))

  pub only-shape : P 4 → P 5 → (x : Lent) (w : ℕ) → Only P (shape_at x w)
  unfolding full_shape packed_shape
  only-shape p4 p5 x w =
      either_way (eqb (bits 0 2 w) 0) (full_shape x w) (packed_shape w)
      (bound (head_at x w) _ (only-head p4 p5 x w) (λ h. bound (scopes_at x (w + h.bytes) (scope_count h)) _ (only-scopes p4 x (w + h.bytes) (scope_count h)) (λ l. given _)))
      (bound (write_codes w) _ (only-codes p4 w) (λ c. given _))

  only-scan : P 6 → (s : List ℕ) (i : CodeBytes) → Only P (scan s i).ending
  only-scan p6 s i = by-scan takes s (λ j x. Only P x.ending) (λ j c next r e h. h) (λ j n e. given n) (λ j k e. refused (BadCodes k) p6) i

  only-list : P 6 → (s : List ℕ) (i : CodeBytes) → Only P (codes_at s i)
  only-list p6 s i = bound (scan s i).ending _ (only-scan p6 s i) (λ k. given _)

  only-epilogues : P 6 → (s : Shape) (l : List Scope) → Only P (epilogues size codes_at s l)
  unfolding epilogues
  only-epilogues p6 s [] = given []
  only-epilogues p6 s (e ∷ l) = bound (codes_at s.codes e.index) _ (only-list p6 s.codes e.index) (λ c. bound (epilogues size codes_at s l) _ (only-epilogues p6 s l) (λ rest. given _))

  pub only-view : P 6 → P 7 → (s : Shape) → Only P (view size codes_at s)
  unfolding view
  only-view p6 p7 s =
      bound (codes_at s.codes (code_bytes 0)) _ (only-list p6 s.codes (code_bytes 0))
      (λ c. bound (epilogues size codes_at s s.scopes) _ (only-epilogues p6 s s.scopes) (λ es. needed (fits s.span (if s.fragment then 0 else total size c.list) es) BadLayout _ p7 (given _)))

-- what refuses with 6 stands behind all that does not
abbrev pub Other : ℕ → Type 0
Other k = k ≡ 6 → ⊥

pub through :
    {A B : Type 0} (x : Res A) (f : A → Res B) (r : Refusal) → Only Other x → (x >>= f) ≡ Err r → number r ≡ 6
    → (a : A) × (x ≡ Ok a) × (f a ≡ Err r)
through (Ok a) f r o h n = (a, refl, h)
through (Err q) f r o h n = let e : q ≡ r = cc in absurd (o q refl (ap number e ∙ n))

pub past-need :
    {B : Type 0} (t : Bool) (q : Refusal) (y : Res B) (r : Refusal) → Other (number q) → (need t q >> y) ≡ Err r → number r ≡ 6
    → (t ≡ true) × (y ≡ Err r)
past-need true q y r o h n = (refl, h)
past-need false q y r o h n = let e : q ≡ r = cc in absurd (o (ap number e ∙ n))

-- 4 and 5 are others
pub shape-other : (x : Lent) (w : ℕ) → Only Other (shape_at x w)
shape-other x w = only-shape Other (λ e. omega (arith, e)) (λ e. omega (arith, e)) x w
