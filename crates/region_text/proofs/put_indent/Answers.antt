-- The first so many of as many spaces as are ever needed.
-- Assumes nothing.
use Prim.Native.Nat.{ℕ, zero, suc, ◌*◌, ◌≤◌}
use mathlib.Core.Path.{◌≡◌, refl, ap}
use mathlib.Core.List.{◌∷◌}
use lib.ListN.{take, replicate}
use native.Mathlib.Omega.{arith}
use Rattle.text.proofs.Overlaid.{laid_as}
use Rattle.region_text.proofs.put_indent.Goals as goal

-- the first of equal elements
first : (n m a : ℕ) → n ≤ m → take n (replicate m a) ≡ replicate n a
first zero m a h = refl
first (suc n) zero a h = absurd (omega arith)
first (suc n) (suc m) a h = ap (λ l. a ∷ l) (first n m a (omega arith))

pub returns : goal.returns
returns c =
    let n = 2 * c.args.level in
    laid_as (first n 128 32 (omega arith)) c.put_text.ensures
