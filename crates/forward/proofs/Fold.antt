-- A push of registers that nothing needs is a fall of SP that may write what it gains, and the other way round.
-- Assumes nothing.
use Prim.Native.Nat.{ℕ, ◌+◌, ◌*◌}
use mathlib.Core.Path.{◌≡◌, refl, sym, ◌∙◌, subst}
use mathlib.Core.List.{List, [], ◌∷◌, ◌++◌}
use native.Mathlib.Omega.{arith}
use Rattle.forward.specs.Registers.{width}
use Rattle.forward.specs.Saving.{bytes}
use Rattle.forward.proofs.Ops.{Op, skip, load, Seen, Need, Kept}
use Rattle.forward.proofs.Back.{St, Forward, Any, Exec, more, Keeps, Near, Inv}
use Rattle.forward.proofs.Flat.{loads}
use Rattle.forward.proofs.Steps.{Ran, ran-more, inv-of}

abbrev pub Dead : List Op → List ℕ → Type 0
Dead cs [] = Unit {0}
Dead cs (x ∷ xs) = (Need cs x → ⊥) × Dead cs xs

need-down : (xs : List ℕ) (cs : List Op) (y : ℕ) → Need (loads xs ++ cs) y → Need cs y
need-down [] cs y w = w
need-down (x ∷ xs) cs y w = need-down xs cs y w.1

need-up : (xs : List ℕ) (cs : List Op) (y : ℕ) → Dead cs xs → Need cs y → Need (loads xs ++ cs) y
need-up [] cs y h w = w
need-up (x ∷ xs) cs y h w = (λ q. h.0 (subst (Need cs) q w), need-up xs cs y h.1 w)

kept-down : (m n : ℕ → ℕ) (xs : List ℕ) (cs : List Op) (a b : ℕ) → b ≡ a + bytes xs → Kept m n (loads xs ++ cs) a → Kept m n cs b
kept-down m n [] cs a b e k = subst (Kept m n cs) (let z : a ≡ b = omega arith in z) k
kept-down m n (x ∷ xs) cs a b e k = kept-down m n xs cs (a + width x) b (omega arith) k.1

kept-up : (m n : ℕ → ℕ) (xs : List ℕ) (cs : List Op) (a b : ℕ) → b ≡ a + bytes xs → Dead cs xs → Kept m n cs b → Kept m n (loads xs ++ cs) a
kept-up m n [] cs a b e h k = subst (Kept m n cs) (let z : b ≡ a = omega arith in z) k
kept-up m n (x ∷ xs) cs a b e h k = (λ w. absurd (h.0 (need-down xs cs x w)), kept-up m n xs cs (a + width x) b (omega arith) h.1 k)

record Fell (e : St) (cs : List Op) (w : ℕ) (t : St) : Type 0 where
  s : St
  exec : Exec e cs s
  fwd : Forward cs w Any (Unit {0}) s t

fell : {e t : St} (xs : List ℕ) (cs : List Op) → Dead cs xs → Exec e (loads xs ++ cs) t → Fell e cs (bytes xs) t
fell {t} [] cs h x =
    record { s = t; exec = x; fwd = record { sp = omega arith; r = λ y a w. refl; above = λ a q. refl; at = tt } }
fell (y ∷ ys) cs h (more x f) =
    let i = fell ys cs h.1 x in
    record {
      s = i.s;
      exec = i.exec;
      fwd = record {
        sp = omega (arith, f.sp, i.fwd.sp);
        r = λ z a w. f.r z (λ q. h.0 (subst (Need cs) q w)) (need-up ys cs z h.1 w) ∙ i.fwd.r z tt w;
        above = λ a q. f.above a (omega (arith, i.fwd.sp)) ∙ i.fwd.above a q;
        at = tt;
      };
    }

rose : (e s : St) (xs : List ℕ) (cs : List Op) (t : St) → Dead cs xs → Exec e cs s → Forward cs (bytes xs) Any (Unit {0}) s t → Ran e (loads xs ++ cs) t
rose e s [] cs t h x f = record { s = s; exec = x; slack = f }
rose e s (y ∷ ys) cs t h x f =
    let t₁ : St = record { sp = t.sp + width y; r = t.r; m = t.m } in
    ran-more (load y)
    (rose e s ys cs t₁ h.1 x (record { sp = omega (arith, f.sp); r = f.r; above = f.above; at = tt }))
    (record { sp = refl; r = λ z a w. refl; above = λ a q. refl; at = λ w. absurd (h.0 (need-down ys cs y w)) })

module _ {base : ℕ} {e : St} {b : Seen} {m : ℕ → ℕ} (x : ℕ) (xs : List ℕ) (cs : List Op) (n : ℕ) (same : bytes (x ∷ xs) ≡ 4 * n) (dead : Dead cs (x ∷ xs)) where
  pub folded : Inv base e (loads (x ∷ xs) ++ cs) b m → Inv base e (skip n ∷ cs) b m
  folded i =
      let g = fell (x ∷ xs) cs dead i.exec in
      record {
        s = i.s;
        exec = more {c = skip n} g.exec (subst (λ w. Forward cs w Any (Unit {0}) g.s i.s) same g.fwd);
        keeps = record {
          sp_at = i.keeps.sp_at;
          regs = λ y w. i.keeps.regs y (need-up (x ∷ xs) cs y dead w);
          words = kept-down m i.s.m (x ∷ xs) cs i.s.sp (i.s.sp + 4 * n) (omega (arith, same)) i.keeps.words;
        };
        near = i.near;
      }

  pub unfolded : Inv base e (skip n ∷ cs) b m → Inv base e (loads (x ∷ xs) ++ cs) b m
  unfolded i = go i.exec i.keeps i.near
    where
      go : {t : St} → Exec e (skip n ∷ cs) t → Keeps (skip n ∷ cs) t b m → Near base t.sp b.sp → Inv base e (loads (x ∷ xs) ++ cs) b m
      go (more {s = s} {t = t} y f) k near =
          inv-of (rose e s (x ∷ xs) cs t dead y (subst (λ w. Forward cs w Any (Unit {0}) s t) (sym same) f)) near
          (record {
            sp_at = k.sp_at;
            regs = λ z w. k.regs z (need-down (x ∷ xs) cs z w);
            words = kept-up m t.m (x ∷ xs) cs t.sp (t.sp + 4 * n) (omega (arith, same)) dead k.words;
          })
