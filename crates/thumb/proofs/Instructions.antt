-- The instruction at an offset, by what is there.
-- Assumes nothing.
use Prim.Native.Nat.{ℕ, ◌+◌, ◌*◌, ◌^◌, ◌≤◌, ◌<◌}
use mathlib.Core.Path.{◌≡◌, ◌∙◌}
use mathlib.Core.List.{List}
use lib.ListN.{length}
use borrow.Author.Tests.{lt-ltb, le-ltb, le-leb, lt-leb}
use Rattle.words.proofs.Tests.{if-true, if-false}
use Rattle.lent.specs.Little.{word16}
use Rattle.thumb.specs.Instruction.{of16, of32, no_instruction, instruction_at}

module _ (s : List ℕ) (o : ℕ) where
  pub none-there : length s < o + 2 → no_instruction ≡ instruction_at s o
  unfolding instruction_at
  none-there h = if-false _ _ (lt-leb (o + 2) (length s) h)

  module _ (one : o + 2 ≤ length s) where
    pub short-there : word16 s o < 0xE800 → of16 (word16 s o) ≡ instruction_at s o
    unfolding instruction_at
    short-there h = if-true _ _ (lt-ltb (word16 s o) 0xE800 h) ∙ if-true _ _ (le-leb (o + 2) (length s) one)

    module _ (long : 0xE800 ≤ word16 s o) where
      pub half-there : length s < o + 4 → no_instruction ≡ instruction_at s o
      unfolding instruction_at
      half-there h = if-false _ _ (lt-leb (o + 4) (length s) h) ∙ if-false _ _ (le-ltb (word16 s o) 0xE800 long) ∙ if-true _ _ (le-leb (o + 2) (length s) one)

      pub long-there : o + 4 ≤ length s → of32 (2 ^ 16 * word16 s o + word16 s (o + 2)) ≡ instruction_at s o
      unfolding instruction_at
      long-there h = if-true _ _ (le-leb (o + 4) (length s) h) ∙ if-false _ _ (le-ltb (word16 s o) 0xE800 long) ∙ if-true _ _ (le-leb (o + 2) (length s) one)
