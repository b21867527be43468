-- A pop register by register: one that is listed takes the word behind those of the listed registers below it, so the lowest has the lowest
-- address; all else stays, and SP stands behind the words.
-- Assumes nothing.
use Rattle.std.specs.Prelude.{Ok, Err}
use Prim.Native.Nat.{ℕ, zero, suc, ◌+◌, ◌*◌, ◌<◌}
use mathlib.Core.Path.{◌≡◌, refl, sym, ap, subst, ◌∙◌}
use mathlib.Core.Bool.{Bool, true, false}
use mathlib.Core.Logic.{◌≢◌}
use lib.Dec.{eqb}
use lib.ListN.{length, length-set}
use native.Mathlib.Omega.{arith}
use borrow.Author.Tests.{eqb-true, eqb-false}
use Rattle.words.specs.Bits.{bit}
use Rattle.words.specs.declared.Refusal.TheVariants.{BadStack}
use Rattle.words.specs.Answer.{Res, ◌>>=◌}
use Rattle.lent.specs.Lent.{Lent, holds, word_at}
use Rattle.machine.specs.Registers.{reg, set_reg, set_sp}
use Rattle.machine.specs.Step.{pop_reg, pop}
use Rattle.machine.specs.AsCoded.Listed.{words_listed}
use Rattle.machine.specs.declared.Regs.{Regs}
use Rattle.machine.proofs.Loading.{load-held, load-none}
use Rattle.machine.proofs.Listed.{words-none, words-with, words-without}
use Rattle.machine.proofs.Popping.{listed, pop-none, pop_next}
use Rattle.machine.proofs.Written.{Placed, reg_same, reg-other}

module _ (k : Lent) (l : ℕ) (g : Regs) where
  -- after the registers below n
  pub record Popped (n : ℕ) (h : Regs) : Type 0 where
    pub sp : h.sp ≡ g.sp + 4 * words_listed l n
    pub long : length h.r ≡ length g.r
    pub taken : (x : ℕ) → x < n → bit x l ≡ true → Placed g x → reg h x ≡ word_at k (g.sp + 4 * words_listed l x)
    pub kept : (x : ℕ) → bit x l ≡ false → reg h x ≡ reg g x
    pub rest : (h.pc ≡ g.pc) × (h.d ≡ g.d)

  none : Popped 0 g
  none = record { sp = omega (arith, words-none l); long = refl; taken = λ x u b p. absurd (let z : x < 0 = u in omega arith); kept = λ x b. refl; rest = (refl, refl) }

  -- a register that is listed is none that is not
  apart : (x y : ℕ) → bit x l ≡ true → bit y l ≡ false → x ≢ y
  apart x y b c e = let z : ◌≡◌ {A = ℕ} 0 1 = cc (ap (λ i. bit i l) e) in omega arith

  passed : (n : ℕ) (h : Regs) → Popped n h → bit n l ≡ false → Popped (suc n) h
  passed n h p b =
      record {
        sp = omega (arith, p.sp, words-without l n b);
        long = p.long;
        taken = λ x u c q. p.taken x (omega (arith, apart x n c b)) c q;
        kept = p.kept;
        rest = p.rest;
      }

  abbrev after : Regs → (x : ℕ) → Regs
  after h x = set_sp (set_reg h x (word_at k h.sp)) (h.sp + 4)

  took : (n : ℕ) (h : Regs) → Popped n h → bit n l ≡ true → Popped (suc n) (after h n)
  took n h p b =
      record {
        sp = omega (arith, p.sp, words-with l n b);
        long = length-set h.r n (word_at k h.sp) ∙ p.long;
        taken = λ x u c q. go x u c q (eqb x n) refl;
        kept = λ x c. reg-other h n x (word_at k h.sp) (λ (e : x ≡ n). apart n x b c (sym e)) ∙ p.kept x c;
        rest = p.rest;
      }
    where
      go :
          (x : ℕ) → x < suc n → bit x l ≡ true → Placed g x → (t : Bool) → eqb x n ≡ t
          → reg (after h n) x ≡ word_at k (g.sp + 4 * words_listed l x)
      go x u c q true e =
          let same = eqb-true x n e in
          rw same (reg_same h n (word_at k h.sp) (λ f. rw p.long (rw same at q f)) ∙ ap (word_at k) p.sp)
      go x u c q false e =
          let other = eqb-false x n e in
          reg-other h n x (word_at k h.sp) other ∙ p.taken x (omega (arith, other)) c q

  reg-held : (i : Regs) (n : ℕ) → holds k i.sp 4 ≡ true → pop_reg k n i ≡ Ok (after i n)
  unfolding pop_reg
  reg-held i n w = rw (load-held k i.sp w) refl

  reg-refused : (i : Regs) (n : ℕ) → holds k i.sp 4 ≡ false → pop_reg k n i ≡ Err BadStack
  unfolding pop_reg
  reg-refused i n w = rw (load-none k i.sp w) refl

  pub pop-rising : (n : ℕ) (h : Regs) → pop k l n g ≡ Ok h → Popped n h
  pop-rising zero h e = let z : g ≡ h = cc (pop-none k l g) in subst (Popped 0) z none
  pop-rising (suc n) h e = go (pop k l n g) refl (λ i q. pop-rising n i q)
    where
      turn : (i : Regs) → Popped n i → listed k l n i ≡ Ok h → (t : Bool) → bit n l ≡ t → (s : Bool) → holds k i.sp 4 ≡ s → Popped (suc n) h
      turn i p q false b s w = let q' = rw b at q in let z : i ≡ h = cc in subst (Popped (suc n)) z (passed n i p b)
      turn i p q true b true w = let q' = rw b at q in let z : after i n ≡ h = cc (reg-held i n w) in subst (Popped (suc n)) z (took n i p b)
      turn i p q true b false w = absurd (let q' = rw b at q in let z : ◌≡◌ {A = ℕ} 0 1 = cc (reg-refused i n w) in omega arith)

      go : (r : Res Regs) → pop k l n g ≡ r → ((i : Regs) → pop k l n g ≡ Ok i → Popped n i) → Popped (suc n) h
      go (Ok i) q ih = turn i (ih i q) (sym (pop_next k l g n ∙ ap (λ x. x >>= listed k l n) q) ∙ e) (bit n l) refl (holds k i.sp 4) refl
      go (Err r) q ih = absurd (let z : ◌≡◌ {A = ℕ} 0 1 = cc (pop_next k l g n ∙ ap (λ x. x >>= listed k l n) q) in omega arith)
