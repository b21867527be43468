-- Every code that is read from code bytes is one of the table's, and sound.
-- Assumes nothing.
use Rattle.std.specs.Prelude.{Ok}
use Prim.Native.Nat.{ℕ, zero, suc, ◌<◌}
use mathlib.Core.Path.{◌≡◌}
use mathlib.Core.List.{List}
use lib.ListN.{drop}
use native.Mathlib.Omega.{arith}
use Rattle.words.specs.declared.CodeBytes.{CodeBytes}
use Rattle.unwinding.specs.CodeList.{Codes}
use Rattle.codes.specs.Code.{codes_at}
use Rattle.codes.specs.declared.Code.{Code}
use Rattle.unwinding.proofs.Scanning.{codes_all}
use Rattle.codes.proofs.Scanning.{took, takes}
use Rattle.codes.proofs.Sound.{sound-code}
use Rattle.forward.proofs.Undoing.{SoundCode, AllSound}

-- numbers below four
pub fourth : (P : ℕ → Type 0) → P 0 → P 1 → P 2 → P 3 → (x : ℕ) → x < 4 → P x
fourth P a b c d zero h = a
fourth P a b c d (suc zero) h = b
fourth P a b c d (suc (suc zero)) h = c
fourth P a b c d (suc (suc (suc zero))) h = d
fourth P a b c d (suc (suc (suc (suc x)))) h = absurd (let z : suc (suc (suc (suc x))) < 4 = h in omega arith)

-- each code of a list
pub codes-sound : (s : List ℕ) (i : CodeBytes) (c : Codes Code) → codes_at s i ≡ Ok c → AllSound c.list
codes-sound s = codes_all takes SoundCode s (λ j c next e. sound-code _ _ c.undo (took j (drop j s) e).means)
