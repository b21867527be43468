-- What the rows of the table mean at each byte and each value, by the first byte.
-- Assumes nothing.
use Rattle.std.specs.Prelude.{if◌then◌else◌}
use Prim.Native.Nat.{ℕ, ◌+◌, ◌≤◌, ◌<◌}
use mathlib.Core.Path.{◌≡◌, refl, sym, ap, ◌∙◌}
use mathlib.Core.Bool.{Bool, true, false, ◌||◌}
use mathlib.Core.Logic.{◌⊎◌, ⊎_elim}
use lib.Dec.{leb, eqb}
use native.Mathlib.Omega.{arith}
use borrow.Author.Tests.{eqb-true, eqb-false}
use Rattle.words.specs.Bits.{bits}
use Rattle.words.specs.Units.{stack_words}
use Rattle.words.proofs.Tests.{leb-same}
use Rattle.codes.specs.Table.{rows, row_in, row_of, range, lr_if}
use Rattle.codes.specs.declared.Undo.TheVariants.{Up, Pop, SpFrom, Vpop, LoadLr, Nothing}
use Rattle.codes.specs.declared.Meaning.{Meaning}
use Rattle.codes.specs.declared.Meaning.TheVariants.{Does, End, Undefined}
use Rattle.codes.proofs.Entries.{run_at}

module _ (b v : ℕ) where
  abbrev at : ℕ → Meaning
  at x = (row_of x).means v

  pub row-00 : b < 0x80 → Does (Up (stack_words (bits 0 7 v))) ≡ (row_of b).means v
  unfolding rows row_in
  row-00 u = run_at at _ 0 0x80 refl b (omega arith) u

  pub row-80 : 0x80 ≤ b → b < 0xC0 → Does (Pop (bits 0 13 v + lr_if (bits 13 1 v))) ≡ (row_of b).means v
  unfolding rows row_in
  row-80 l u = run_at at _ 0x80 0x40 refl b l u

  pub row-C0 :
      0xC0 ≤ b → b < 0xD0
      → (if eqb (bits 0 4 v) 13 || eqb (bits 0 4 v) 15 then Undefined else Does (SpFrom (bits 0 4 v))) ≡ (row_of b).means v
  unfolding rows row_in
  row-C0 l u = run_at at _ 0xC0 0x10 refl b l u

  pub row-D0 : 0xD0 ≤ b → b < 0xD8 → Does (Pop (range 4 (4 + bits 0 2 v) + lr_if (bits 2 1 v))) ≡ (row_of b).means v
  unfolding rows row_in
  row-D0 l u = run_at at _ 0xD0 8 refl b l u

  pub row-D8 : 0xD8 ≤ b → b < 0xE0 → Does (Pop (range 4 (8 + bits 0 2 v) + lr_if (bits 2 1 v))) ≡ (row_of b).means v
  unfolding rows row_in
  row-D8 l u = run_at at _ 0xD8 8 refl b l u

  pub row-E0 : 0xE0 ≤ b → b < 0xE8 → Does (Vpop 8 (8 + bits 0 3 v)) ≡ (row_of b).means v
  unfolding rows row_in
  row-E0 l u = run_at at _ 0xE0 8 refl b l u

  pub row-E8 : 0xE8 ≤ b → b < 0xEC → Does (Up (stack_words (bits 0 10 v))) ≡ (row_of b).means v
  unfolding rows row_in
  row-E8 l u = run_at at _ 0xE8 4 refl b l u

  pub row-EC : 0xEC ≤ b → b < 0xEE → Does (Pop (bits 0 8 v + lr_if (bits 8 1 v))) ≡ (row_of b).means v
  unfolding rows row_in
  row-EC l u = run_at at _ 0xEC 2 refl b l u

  -- first bytes of no code (RULES 3.2)
  pub row-EE : 0xEE ≤ b → b < 0xF5 → (b ≡ 0xEF → ⊥) → Undefined ≡ (row_of b).means v
  unfolding rows row_in
  row-EE l u n = go (eqb b 0xEE) refl
    where
      go : (t : Bool) → eqb b 0xEE ≡ t → Undefined ≡ (row_of b).means v
      go true e = ap at (sym (eqb-true b 0xEE e))
      go false e = run_at at _ 0xF0 5 refl b (omega (arith, eqb-false b 0xEE e, n)) u

  pub row-EF : b ≡ 0xEF → (if eqb (bits 4 4 v) 0 then Does (LoadLr (stack_words (bits 0 4 v))) else Undefined) ≡ (row_of b).means v
  unfolding rows row_in
  row-EF e = ap at (sym e)

  pub row-F5 : b ≡ 0xF5 → (if leb (bits 4 4 v) (bits 0 4 v) then Does (Vpop (bits 4 4 v) (bits 0 4 v)) else Undefined) ≡ (row_of b).means v
  unfolding rows row_in
  row-F5 e = ap at (sym e)

  pub row-F6 :
      b ≡ 0xF6
      → (if leb (16 + bits 4 4 v) (16 + bits 0 4 v) then Does (Vpop (16 + bits 4 4 v) (16 + bits 0 4 v)) else Undefined) ≡ (row_of b).means v
  unfolding rows row_in
  row-F6 e =
      ap (λ t. if t then Does (Vpop (16 + bits 4 4 v) (16 + bits 0 4 v)) else Undefined)
      (leb-same (16 + bits 4 4 v) (16 + bits 0 4 v) (bits 4 4 v) (bits 0 4 v) (λ h. omega arith) (λ h. omega arith))
      ∙ ap at (sym e)

  pub row-F7 : (b ≡ 0xF7) ⊎ (b ≡ 0xF9) → Does (Up (stack_words (bits 0 16 v))) ≡ (row_of b).means v
  unfolding rows row_in
  row-F7 h = ⊎_elim (λ e. ap at (sym e)) (λ e. ap at (sym e)) h

  pub row-F8 : (b ≡ 0xF8) ⊎ (b ≡ 0xFA) → Does (Up (stack_words (bits 0 24 v))) ≡ (row_of b).means v
  unfolding rows row_in
  row-F8 h = ⊎_elim (λ e. ap at (sym e)) (λ e. ap at (sym e)) h

  pub row-FB : 0xFB ≤ b → b < 0xFD → Does Nothing ≡ (row_of b).means v
  unfolding rows row_in
  row-FB l u = run_at at _ 0xFB 2 refl b l u

  pub row-FD : 0xFD ≤ b → b < 0x100 → End ≡ (row_of b).means v
  unfolding rows row_in
  row-FD l u = run_at at _ 0xFD 3 refl b l u
