-- The integer lists of packed words: their ranges, and that none has more than r0 to r12 beside LR.
-- Assumes nothing.
use Rattle.std.specs.Prelude.{if◌then◌else◌}
use Prim.Native.Nat.{ℕ, ◌+◌, ◌-◌, ◌*◌, ◌%◌, ◌^◌, ◌≤◌, ◌<◌}
use mathlib.Core.Path.{◌≡◌, sym, ap, ◌∙◌}
use mathlib.Core.Bool.{Bool, true, false}
use lib.Pow.{pow_pos}
use lib.Dec.{eqb}
use native.Mathlib.Omega.{arith}
use Rattle.words.specs.Bits.{bits}
use Rattle.codes.specs.Table.{range, lr_if}
use Rattle.codes.proofs.Registers.{RegisterList, range-r4, joined-others, made-lr, made_list}
use Rattle.packed.specs.Packed.{Fit, fields, integers}
use Rattle.packed.specs.declared.Packed.{Packed}
use Rattle.packed.proofs.Words.{fields_fit_lem}

-- r0 to r3 are four bits
pub range-r3 : (k : ℕ) → range (3 - k) 3 < 16
range-r3 k = let m : 1 ≤ 2 ^ (3 - k) = pow_pos (3 - k) in omega arith

-- no list has more than r0 to r12
pub integers-small : (p : Packed) (fold : Bool) → Fit p → integers p fold < 8192
integers-small p fold f = go (eqb p.r 0) fold
  where
    saved : range 4 (4 + p.reg) < 4096
    saved = range-r4 (4 + p.reg) (omega arith) (omega (arith, f.reg))

    go : (s t : Bool) → (if s then range 4 (4 + p.reg) else 0) + (if t then range (3 - p.adjust % 4) 3 else 0) + p.c * 2 ^ 11 < 8192
    go true true = omega (arith, saved, range-r3 (p.adjust % 4), f.c)
    go true false = omega (arith, saved, f.c)
    go false true = omega (arith, range-r3 (p.adjust % 4), f.c)
    go false false = omega (arith, f.c)

-- the list of a word, LR in it, taken apart
module _ (w : ℕ) (fold : Bool) (list : ℕ) (e : list ≡ integers (fields w) fold + lr_if (fields w).l) where
  pub word-others : bits 0 13 list ≡ integers (fields w) fold
  word-others = ap (bits 0 13) e ∙ joined-others (integers (fields w) fold) (integers-small (fields w) fold (fields_fit_lem w)) (fields w).l

  pub word_made : list ≡ bits 0 13 list + lr_if (fields w).l
  word_made = e ∙ ap (λ l. l + lr_if (fields w).l) (sym word-others)

  pub word-lr : bits 14 1 list ≡ (fields w).l
  word-lr = made-lr list (fields w).l word_made (fields_fit_lem w).l

  pub word-list : RegisterList list
  word-list = made_list list (fields w).l word_made (fields_fit_lem w).l
