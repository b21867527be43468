-- Popping goes register by register: after the first n, one more; and a refusal stays.
-- Assumes nothing.
use Rattle.std.specs.Prelude.{if◌then◌else◌, Ok, Err}
use Prim.Native.Nat.{ℕ, zero, suc, ◌+◌, ◌-◌, ◌<◌, ◌≤◌}
use mathlib.Core.Path.{◌≡◌, refl, ap, ◌∙◌}
use mathlib.Core.Bool.{true, false}
use mathlib.Core.List.{List}
use lib.Dec.{eqb}
use lib.ListN.{set}
use native.Mathlib.Numerals.{add-one}
use native.Mathlib.Omega.{arith}
use Rattle.words.specs.Bits.{bit}
use Rattle.lent.specs.Lent.{Lent, end}
use Rattle.words.specs.declared.Refusal.{Refusal}
use Rattle.words.specs.Answer.{Res, ◌>>=◌}
use Rattle.machine.specs.Step.{load, pop_reg, pop_d, pop, vpop}
use Rattle.machine.specs.AsCoded.Answers.{load_two, regs}
use Rattle.machine.specs.declared.Regs.{Regs}
use Rattle.machine.proofs.Loading.{load_inside}

-- for any number of turns, each of which goes on from the answer of those before
module _ {S : Type 0} (after : ℕ → Res S) (turn : ℕ → S → Res S) (next : (n : ℕ) → after (suc n) ≡ (after n >>= turn n)) where
  one_more : (n : ℕ) (s : S) → after n ≡ Ok s → after (n + 1) ≡ turn n s
  one_more n s e = ap after (add-one n) ∙ next n ∙ ap (λ x. x >>= turn n) e

  stays : (n : ℕ) (r : Refusal) → after n ≡ Err r → (m : ℕ) → after (m + n) ≡ Err r
  stays n r e zero = ap after (let z : 0 + n ≡ n = omega arith in z) ∙ e
  stays n r e (suc m) =
      ap after (let z : suc m + n ≡ suc (m + n) = omega arith in z) ∙ next (m + n) ∙ ap (λ x. x >>= turn (m + n)) (stays n r e m)

  pub goes_on : (n : ℕ) (s t : S) → after n ≡ Ok s → turn n s ≡ Ok t → after (n + 1) ≡ Ok t
  goes_on n s t e f = one_more n s e ∙ f

  pub stops : (n m : ℕ) (s : S) (r : Refusal) → after n ≡ Ok s → turn n s ≡ Err r → n < m → after m ≡ Err r
  stops n m s r e f h =
      ap after (let z : m ≡ m - (n + 1) + (n + 1) = omega arith in z) ∙ stays (n + 1) r (one_more n s e ∙ f) (m - (n + 1))

-- a pop of a list, and of d registers, are such turns
abbrev pub listed : Lent → (list x : ℕ) → Regs → Res Regs
listed k l x h = if bit x l then pop_reg k x h else Ok h

pub pop-none : (k : Lent) (l : ℕ) (g : Regs) → pop k l 0 g ≡ Ok g
unfolding pop
pop-none k l g = refl

pub pop_next : (k : Lent) (l : ℕ) (g : Regs) (n : ℕ) → pop k l (suc n) g ≡ (pop k l n g >>= listed k l n)
unfolding pop
pop_next k l g n = refl

-- a turn in place: the register takes its word, or is not listed, or its word is outside
module _ (k : Lent) (l x : ℕ) (r : List ℕ) (at lr pc : ℕ) (d : List ℕ) where
  pub listed-word :
      (w : ℕ) (r' : List ℕ) (at' lr' : ℕ) → bit x l ≡ true → load k at ≡ Ok w → r' ≡ set r x w → at' ≡ at + 4
      → lr' ≡ (if eqb x 14 then w else lr) → listed k l x (regs r at lr pc d) ≡ Ok (regs r' at' lr' pc d)
  unfolding pop_reg
  listed-word w r' at' lr' b e p q s = simp (b, e, p, q, s)

  pub listed-not :
      (r' : List ℕ) (at' lr' : ℕ) → bit x l ≡ false → r' ≡ r → at' ≡ at → lr' ≡ lr
      → listed k l x (regs r at lr pc d) ≡ Ok (regs r' at' lr' pc d)
  listed-not r' at' lr' b p q s = simp (b, p, q, s)

  pub listed-refused : (q : Refusal) → bit x l ≡ true → load k at ≡ Err q → listed k l x (regs r at lr pc d) ≡ Err q
  unfolding pop_reg
  listed-refused q b e = simp (b, e)

pub vpop-none : (k : Lent) (x : ℕ) (g : Regs) → vpop k x 0 g ≡ Ok g
unfolding vpop
vpop-none k x g = refl

pub vpop-next : (k : Lent) (x : ℕ) (g : Regs) (n : ℕ) → vpop k x (suc n) g ≡ (vpop k x n g >>= λ h. pop_d k (x + n) h)
unfolding vpop
vpop-next k x g n = refl

-- two words that were loaded are within the stack
pub two_inside : (k : Lent) (a w : ℕ) → load_two k a ≡ Ok w → (k.base ≤ a) × (a + 8 ≤ end k)
two_inside k a w e = go (load k a) (load k (a + 4)) refl refl
  where
    go : (x y : Res ℕ) → load k a ≡ x → load k (a + 4) ≡ y → (k.base ≤ a) × (a + 8 ≤ end k)
    go (Ok l) (Ok h) p q = let i = load_inside k a l p in let j = load_inside k (a + 4) h q in (i.0, omega (arith, j.1))
    go (Ok l) (Err r) p q = absurd (let e' = rw (p, q) at e in let z : ◌≡◌ {A = ℕ} 0 1 = cc in omega arith)
    go (Err r) y p q = absurd (let e' = rw p at e in let z : ◌≡◌ {A = ℕ} 0 1 = cc in omega arith)

module _ (k : Lent) (x : ℕ) (r : List ℕ) (at lr pc : ℕ) (d : List ℕ) where
  -- a pop of a d register is the two words that it takes
  d-two : pop_d k x (regs r at lr pc d) ≡ (load_two k at >>= λ w. Ok (regs r (at + 8) lr pc (set d x w)))
  unfolding pop_d
  d-two = go (load k at) (load k (at + 4)) refl refl
    where
      go : (y z : Res ℕ) → load k at ≡ y → load k (at + 4) ≡ z → pop_d k x (regs r at lr pc d) ≡ (load_two k at >>= λ w. Ok (regs r (at + 8) lr pc (set d x w)))
      go (Ok l) (Ok h) p q = simp (p, q)
      go (Ok l) (Err w) p q = simp (p, q)
      go (Err w) z p q = simp p

  pub d-word : (w : ℕ) (d' : List ℕ) → load_two k at ≡ Ok w → d' ≡ set d x w → pop_d k x (regs r at lr pc d) ≡ Ok (regs r (at + 8) lr pc d')
  d-word w d' e p = rw (d-two, e, p) refl

  pub d-refused : (q : Refusal) → load_two k at ≡ Err q → pop_d k x (regs r at lr pc d) ≡ Err q
  d-refused q e = rw (d-two, e) refl
