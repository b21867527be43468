-- The test of the scope words as the code makes it, word by word. That it decides as `scopes_at` does is a law (`scopes-are` of record/proofs/Shapes.antt).
use Rattle.std.specs.Prelude.{ℕ, zero, suc, ◌+◌, ◌*◌, List, Bool, true, ◌&&◌, eqb}
use Rattle.words.specs.Bits.{bits}
use Rattle.lent.specs.Little.{word32}

-- of n scope words, the first of which has this number, all have Res 0 (RULES 9.52)
unfoldable pub res_zero : (xdata : List ℕ) → (at number n : ℕ) → Bool
res_zero s at k zero = true
res_zero s at k (suc n) = let rest = res_zero s at (k + 1) n in eqb (bits 18 2 (word32 s (at + 4 * k))) 0 && rest
