-- How many registers a list names, one register more at a time.
-- Assumes nothing.
use Prim.Native.Nat.{ℕ, suc, ◌+◌}
use mathlib.Core.Path.{◌≡◌, refl}
use Rattle.words.specs.Bits.{bits}
use Rattle.thumb.specs.Rows.{count}

pub none : (list : ℕ) → count list 0 ≡ 0
unfolding count
none l = refl

pub more : (list n : ℕ) → count list (suc n) ≡ count list n + bits n 1 list
unfolding count
more l n = refl
