-- A word is loaded exactly where it lies wholly in the lent stack.
-- Assumes nothing.
use Rattle.std.specs.Prelude.{Ok, Err}
use Prim.Native.Nat.{ℕ, ◌+◌, ◌-◌, ◌≤◌}
use mathlib.Core.Path.{◌≡◌, refl, ap, ◌∙◌}
use mathlib.Core.Bool.{Bool, true, false}
use mathlib.Core.List.{List}
use lib.Dec.{leb}
use lib.ListN.{length}
use native.Mathlib.Omega.{arith}
use borrow.Author.Tests.{leb-true, le-leb}
use Rattle.words.proofs.Tests.{both}
use Rattle.lent.specs.Lent.{Lent, lent, end, holds, word_at}
use Rattle.lent.specs.Little.{word32}
use Rattle.words.specs.declared.Refusal.TheVariants.{BadStack}
use Rattle.machine.specs.Step.{load}

-- bytes that are lent, by where they begin and end
module _ (k : Lent) (a n : ℕ) where
  pub held : holds k a n ≡ true → (k.base ≤ a) × (a + n ≤ end k)
  held e = let b = both (leb k.base a) (leb (a + n) (end k)) e in (leb-true _ _ b.0, leb-true _ _ b.1)

  pub holding : k.base ≤ a → a + n ≤ end k → holds k a n ≡ true
  holding p q = rw (le-leb _ _ p, le-leb _ _ q) refl

module _ (k : Lent) (a : ℕ) where
  pub load-held : holds k a 4 ≡ true → load k a ≡ Ok (word_at k a)
  unfolding load
  load-held e = rw e refl

  pub load-none : holds k a 4 ≡ false → load k a ≡ Err BadStack
  unfolding load
  load-none e = rw e refl

  pub load_inside : (w : ℕ) → load k a ≡ Ok w → (k.base ≤ a) × (a + 4 ≤ end k)
  load_inside w e = go (holds k a 4) refl
    where
      go : (t : Bool) → holds k a 4 ≡ t → (k.base ≤ a) × (a + 4 ≤ end k)
      go true p = held k a 4 p
      go false p = absurd (let f = load-none p in let z : ◌≡◌ {A = ℕ} 0 1 = cc in omega arith)

-- the word at an offset
pub load_at : (b : ℕ) (s : List ℕ) (o : ℕ) → o + 4 ≤ length s → load (lent b s) (b + o) ≡ Ok (word32 s o)
load_at b s o h =
    let z : b + o - b ≡ o = omega arith in
    load-held (lent b s) (b + o) (holding (lent b s) (b + o) 4 (omega arith) (omega arith)) ∙ ap (λ i. Ok (word32 s i)) z
