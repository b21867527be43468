-- A code taken is its row's, so these codes are such as a code list can be made of; and one code, and then the rest.
-- Assumes nothing.
use Rattle.std.specs.Prelude.{if◌then◌else◌}
use Prim.Native.Nat.{ℕ, ◌+◌, ◌*◌, ◌≤◌, ◌<◌}
use mathlib.Core.Path.{◌≡◌, refl, ap, subst, ◌∙◌}
use mathlib.Core.List.{List, [], ◌∷◌}
use mathlib.Core.Bool.{Bool, true, false}
use lib.ListN.{length, take, drop, get_or, length-drop}
use lib.Dec.{leb}
use native.Mathlib.Omega.{arith}
use borrow.Author.Tests.{leb-true}
use Rattle.words.specs.Units.{code_bytes, halfword_bytes}
use Rattle.words.specs.declared.CodeBytes.{CodeBytes}
use Rattle.unwinding.specs.Taking.{Taken as AnyTaken, one, last, bad, follow}
use Rattle.unwinding.proofs.Scanning.{Takes, scan_step}
use Rattle.codes.specs.Table.{Row, row_of}
use Rattle.codes.specs.Code.{value, taken, take_from, take_at, seen, taking, bytes_of, scan, halves}
use Rattle.codes.specs.declared.Code.{Code}
use Rattle.codes.specs.declared.Meaning.{Meaning}
use Rattle.codes.specs.declared.Meaning.TheVariants.{Does, End, Undefined}
use Rattle.codes.specs.declared.Taken.{Taken}
use Rattle.codes.specs.declared.Taken.TheVariants.{Bad}
use Rattle.codes.proofs.Rows.{row-few, row_sized}

-- the row of the first byte, and the value of the code's bytes
abbrev row_at : List ℕ → Row
row_at left = row_of (get_or left 0 0)

abbrev value_at : List ℕ → ℕ
value_at left = value (take (row_at left).bytes left) 0

pub record FromRow (i : ℕ) (left : List ℕ) (c : Code) (next : CodeBytes) : Type 0 where
  pub means : (row_at left).means (value_at left) ≡ Does c.undo
  pub size : c.size ≡ (row_at left).size
  pub behind : next ≡ code_bytes (i + (row_at left).bytes)
  pub there : (row_at left).bytes ≤ length left

module _ (i : ℕ) where
  abbrev Whence : List ℕ → AnyTaken Code → Type 0
  Whence left (one c next) = FromRow i left c next
  Whence left (last n) = (n ≡ halfword_bytes (row_at left).size) × (0 < length left)
  Whence left (bad j) = Unit {0}

  whence : (left : List ℕ) → Whence left (taking i left)
  unfolding take_from
  whence [] = tt
  whence (b ∷ s) = go (leb (row_of b).bytes (length (b ∷ s))) refl
    where
      m : Meaning
      m = (row_of b).means (value_at (b ∷ s))

      by-meaning : (x : Meaning) → m ≡ x → (row_of b).bytes ≤ length (b ∷ s) → Whence (b ∷ s) (seen (taken i (row_of b) x))
      by-meaning (Does u) e l = record { means = e; size = refl; behind = refl; there = l }
      by-meaning End e l = (refl, omega arith)
      by-meaning Undefined e l = tt

      go :
          (x : Bool) → leb (row_of b).bytes (length (b ∷ s)) ≡ x
          → Whence (b ∷ s) (seen (if x then taken i (row_of b) m else Bad (code_bytes (i + length (b ∷ s)))))
      go true e = by-meaning m refl (leb-true _ _ e)
      go false e = tt

  pub took : (left : List ℕ) {c : Code} {next : CodeBytes} → taking i left ≡ one c next → FromRow i left c next
  took left e = subst (Whence left) e (whence left)

  took-last : (left : List ℕ) {n : ℕ} → taking i left ≡ last n → (n ≡ halfword_bytes (row_at left).size) × (0 < length left)
  took-last left e = subst (Whence left) e (whence left)

pub takes : Takes taking bytes_of
unfolding take_from
takes = record {
  empty = λ at. refl;
  code = λ at b s c next e. let w = took at (b ∷ s) e in record { behind = w.behind; some = (row-few b).some; there = w.there };
}

-- a code has an instruction, of at most two halfwords; an end code stands on a byte
pub take-size : (s : List ℕ) (i : ℕ) {c : Code} {next : CodeBytes} → taking i (drop i s) ≡ one c next → (1 ≤ halves c) × (halves c ≤ 2)
take-size s i {c} e =
    let w = took i (drop i s) e in
    let z : c.size.0 ≡ (row_at (drop i s)).size.0 = ap (λ x. x.0) w.size in
    (omega (arith, row_sized (get_or (drop i s) 0 0) _ _ w.means), omega (arith, (row-few (get_or (drop i s) 0 0)).small))

pub take_last : (s : List ℕ) (i : ℕ) {n : ℕ} → taking i (drop i s) ≡ last n → (h : ℕ) × (n ≡ 2 * h) × (h ≤ 2) × (i < length s)
take_last s i e =
    let w = took-last i (drop i s) e in
    ((row_at (drop i s)).size.0, w.0, (row-few (get_or (drop i s) 0 0)).small, omega (arith, w.1, length-drop i s))

-- one code, and then the rest, by what stands there
pub scan-by : (s : List ℕ) (i : CodeBytes) {x : Taken Code} → take_at s i ≡ x → scan s i ≡ follow (seen x) (scan s)
scan-by s i e = scan_step takes s i.0 ∙ ap (λ x. follow (seen x) (scan s)) e
