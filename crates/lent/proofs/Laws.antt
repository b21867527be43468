-- Laws of lent bytes.
-- Assumes nothing.
use Prim.Native.Nat.{ℕ, ◌+◌, ◌≤◌, ◌<◌}
use mathlib.Core.Path.{◌≡◌, refl, ap}
use mathlib.Core.Bool.{false}
use mathlib.Core.List.{List}
use lib.Dec.{leb}
use lib.ListN.{length, get_or}
use borrow.Author.Tests.{le-leb, lt-leb}
use Rattle.lent.specs.Lent.{lent, holds}

-- no byte below the base is lent
pub holds-below : (b : ℕ) (s : List ℕ) (a n : ℕ) → a < b → false ≡ holds (lent b s) a n
holds-below b s a n h = rw (lt-leb b a h) refl

-- from the base up it goes by what is left
pub holds-above : (b : ℕ) (s : List ℕ) (a n : ℕ) → b ≤ a → leb (a + n) (b + length s) ≡ holds (lent b s) a n
holds-above b s a n h = rw (le-leb b a h) refl

-- the byte at an equal place
pub byte-same : (s : List ℕ) {i j : ℕ} → i ≡ j → get_or s i 0 ≡ get_or s j 0
byte-same s h = ap (λ k. get_or s k 0) h
