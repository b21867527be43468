-- The two words that the definition reads are the halves of the double word: the lower has four bytes, and so is below 2^32.
-- Assumes nothing.
use Prim.Native.Nat.{◌+◌, ◌*◌, ◌/◌, ◌%◌}
use mathlib.Core.Path.{◌≡◌, ap, ◌∙◌}
use native.Mathlib.Omega.{arith}
use Rattle.words.specs.Bits.{even}
use Rattle.lent.specs.Little.{word32}
use Rattle.pdata.proofs.entry_in.Goals as goal

pub returns : goal.returns
returns c =
    let a = c.args in
    let at = 8 * a.i in
    let both = c.word64_in-both in
    let byte = c.type_inv.pdata in
    let low : both.result % 4294967296 ≡ word32 a.pdata.now at = omega (arith, both.ensures, byte at, byte (at + 1), byte (at + 2), byte (at + 2 + 1)) in
    let high : both.result / 4294967296 ≡ word32 a.pdata.now (at + 4) = omega (arith, both.ensures, byte at, byte (at + 1), byte (at + 2), byte (at + 2 + 1)) in
    λ k. record { number = a.i; start = (c.even.ensures ∙ ap even low) k; word = high k }
