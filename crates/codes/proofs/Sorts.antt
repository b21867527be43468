-- What the table's entries say is what their rows do: bytes, size and sort.
-- Assumes nothing.
use Rattle.std.specs.Prelude.{if◌then◌else◌}
use Prim.Native.Nat.{ℕ, ◌+◌, ◌*◌, ◌/◌, ◌%◌, ◌≤◌, ◌<◌}
use mathlib.Core.Path.{◌≡◌, refl, sym, ap, ap₂, subst, ◌∙◌}
use mathlib.Core.Bool.{Bool, true, false, ◌||◌}
use lib.ListN.{get_or}
use lib.Dec.{leb, eqb}
use native.Mathlib.Omega.{arith}
use borrow.Author.Tests.{eqb-true, lt-leb}
use Rattle.words.specs.Bits.{bits}
use Rattle.words.specs.Units.{halfwords, stack_words}
use Rattle.codes.specs.Table.{rows, row_in, row_of}
use Rattle.codes.specs.AsCoded.Rows.{kind, sort_of, entry_of, row_numbers}
use Rattle.codes.specs.AsCoded.Sizing.{fitting}
use Rattle.codes.specs.declared.Undo.{Undo}
use Rattle.codes.specs.declared.Undo.TheVariants.{Vpop, LoadLr}
use Rattle.codes.specs.declared.Meaning.{Meaning}
use Rattle.codes.specs.declared.Meaning.TheVariants.{Does, End, Undefined}
use Rattle.codes.proofs.Entries.{run_at, tab-has}
use Rattle.codes.proofs.Rows.{row-few}

module _ (b : ℕ) where
  pub entry-bytes : entry_of b % 8 ≡ (row_of b).bytes
  entry-bytes = omega (arith, (row-few b).some, (row-few b).most)

  pub entry-size : entry_of b / 8 % 4 ≡ (row_of b).size.0
  entry-size = omega (arith, (row-few b).some, (row-few b).most, (row-few b).small)

  pub entry-sort : entry_of b / 32 ≡ sort_of b
  entry-sort = omega (arith, (row-few b).some, (row-few b).most, (row-few b).small)

  -- the same of a number that is the entry
  module _ {r : ℕ} (e : r ≡ entry_of b) where
    pub entry-count : r % 8 ≡ (row_of b).bytes
    entry-count = ap (λ n. n % 8) e ∙ entry-bytes

    pub entry-halfwords : halfwords (r / 8 % 4) ≡ (row_of b).size
    entry-halfwords = ap (λ n. halfwords (n / 8 % 4)) e ∙ ap halfwords entry-size

  -- what holds of a byte's entry holds of what stands there in the table
  pub entry_has : b < 256 → (P : ℕ → Type 0) → P (entry_of b) → P (get_or row_numbers b 0)
  unfolding row_numbers
  entry_has h P p = tab-has P entry_of 256 b h p

-- one computed test over the table: where the second byte does not count, the row means what the sort says, whatever follows
abbrev own : ℕ → ℕ → ℕ
own b v = if eqb (row_of b).bytes 1 then b else v

abbrev steady : ℕ → ℕ → Bool
steady v b = leb 3 (sort_of b) || eqb (kind ((row_of b).means (own b v))) (sort_of b)

steady-rows : (b v : ℕ) → b < 256 → true ≡ steady v b
unfolding rows row_in
steady-rows b v h = run_at (steady v) true 0 256 refl b (omega arith) h

own_value : (b v : ℕ) → ((row_of b).bytes ≡ 1 → v ≡ b) → v ≡ own b v
own_value b v one = go (eqb (row_of b).bytes 1) refl
  where
    go : (t : Bool) → eqb (row_of b).bytes 1 ≡ t → v ≡ (if t then b else v)
    go true e = one (eqb-true _ _ e)
    go false e = refl

pub by_kind : (b v : ℕ) → b < 256 → ((row_of b).bytes ≡ 1 → v ≡ b) → sort_of b < 3 → kind ((row_of b).means v) ≡ sort_of b
by_kind b v h one l =
    let w : true ≡ eqb (kind ((row_of b).means (own b v))) (sort_of b) = rw (lt-leb 3 (sort_of b) l) at (steady-rows b v h) in
    ap (λ x. kind ((row_of b).means x)) (own_value b v one) ∙ eqb-true _ _ (sym w)

kind-few : (m : Meaning) → kind m ≤ 2
kind-few (Does u) = omega arith
kind-few End = omega arith
kind-few Undefined = omega arith

-- the first bytes of the other sorts
by_three : (P : ℕ → Type 0) → P 0xEF → P 0xF5 → P 0xF6 → (b : ℕ) → 3 ≤ sort_of b → P b
by_three P ef f5 f6 b l = go (eqb b 0xEF) refl (eqb b 0xF5) refl (eqb b 0xF6) refl
  where
    go : (x : Bool) → eqb b 0xEF ≡ x → (y : Bool) → eqb b 0xF5 ≡ y → (z : Bool) → eqb b 0xF6 ≡ z → P b
    go true p y q z r = subst P (sym (eqb-true b 0xEF p)) ef
    go false p true q z r = subst P (sym (eqb-true b 0xF5 q)) f5
    go false p false q true r = subst P (sym (eqb-true b 0xF6 r)) f6
    go false p false q false r =
        let k : 3 ≤ kind ((row_of b).means b) = rw (p, q, r) at l in absurd (omega (arith, kind-few ((row_of b).means b)))

pub two_bytes : (b : ℕ) → 3 ≤ sort_of b → (row_of b).bytes ≡ 2
unfolding rows row_in
two_bytes = by_three (λ b. (row_of b).bytes ≡ 2) refl refl refl

kind-if : (t : Bool) (u : Undo) → kind (if t then Does u else Undefined) ≡ (if t then 0 else 2)
kind-if true u = refl
kind-if false u = refl

-- there the second byte says it
module _ (x : ℕ) (h : x < 256) where
  abbrev both : ℕ → ℕ
  both b = 256 * b + x

  abbrev Said : ℕ → Type 0
  Said b = kind ((row_of b).means (both b)) ≡ (if fitting (sort_of b) x then 0 else 2)

  high : (b : ℕ) → bits 4 4 (both b) ≡ x / 16
  high b = omega arith

  low : (b : ℕ) → bits 0 4 (both b) ≡ x % 16
  low b = omega arith

  pair : (b : ℕ) (u : Undo) → kind (if leb (bits 4 4 (both b)) (bits 0 4 (both b)) then Does u else Undefined) ≡ (if leb (x / 16) (x % 16) then 0 else 2)
  pair b u = kind-if (leb (bits 4 4 (both b)) (bits 0 4 (both b))) u ∙ ap₂ (λ m n. if leb m n then 0 else 2) (high b) (low b)

  pub by-second : (b : ℕ) → 3 ≤ sort_of b → Said b
  unfolding rows row_in
  by-second =
      by_three Said
      (kind-if (eqb (bits 4 4 (both 0xEF)) 0) (LoadLr (stack_words (bits 0 4 (both 0xEF)))) ∙ ap (λ m. if eqb m 0 then 0 else 2) (high 0xEF))
      (pair 0xF5 (Vpop (bits 4 4 (both 0xF5)) (bits 0 4 (both 0xF5))))
      (pair 0xF6 (Vpop (16 + bits 4 4 (both 0xF6)) (16 + bits 0 4 (both 0xF6))))
