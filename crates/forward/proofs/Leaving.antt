-- An epilogue's instructions undo as its codes do, and its nops touch nothing that undoing needs.
-- Assumes nothing.
use Prim.Native.Nat.{ℕ, ◌%◌, ◌≤◌}
use mathlib.Core.Path.{◌≡◌, refl, sym, ap, ◌∙◌, subst}
use mathlib.Core.Logic.{inl, inr}
use mathlib.Core.List.{List, ◌++◌}
use native.Mathlib.Omega.{arith}
use Rattle.lent.specs.Lent.{Lent, end, word_at}
use Rattle.codes.specs.declared.Code.{Code}
use Rattle.codes.specs.declared.Undo.{Undo}
use Rattle.codes.specs.declared.Undo.TheVariants.{Up, Pop, SpFrom, Vpop, LoadLr, Nothing}
use Rattle.machine.specs.Step.{effect}
use Rattle.forward.specs.Saving.{RX}
use Rattle.forward.specs.State.{State}
use Rattle.forward.specs.Epilogue.{Undoes, Idles, Leaves, Ran, none, next}
use Rattle.forward.proofs.Ops.{Op, Seen, Need}
use Rattle.forward.proofs.Back.{St, SpAt, Inv}
use Rattle.forward.proofs.Flat.{ops, flat, need-cases, lasting-range}
use Rattle.forward.proofs.Steps.{seen, value_same}
use Rattle.forward.proofs.Memory.{outside-same}
use Rattle.codes.proofs.Sound.{Sound}
use Rattle.forward.proofs.Undoing.{AllSound, effects}

-- registers that undoing cannot tell apart
inv-like :
    {base : ℕ} {e : St} {cs : List Op} {b c : Seen} {m : ℕ → ℕ} → c.sp ≡ b.sp → ((x : ℕ) → Need cs x → c.r x ≡ b.r x) → Inv base e cs b m
    → Inv base e cs c m
inv-like {cs} p h v = record {
  s = v.s;
  exec = v.exec;
  keeps = record {
    sp_at = subst (λ a. SpAt cs v.s.sp a) (sym p) v.keeps.sp_at;
    regs = λ x w. h x w ∙ v.keeps.regs x w;
    words = v.keeps.words;
  };
  near = record { even = omega (arith, p, v.near.even); low = omega (arith, p, v.near.low); high = omega (arith, p, v.near.high) };
}

-- no instruction of an epilogue writes memory
stack-one : (r_x : ℕ → Type 0) (u : Undo) (s t : State) → Leaves r_x u s t → t.stack ≡ s.stack
stack-one r_x (Up n) s t f = f.stack
stack-one r_x (Pop n) s t f = f.stack
stack-one r_x (SpFrom n) s t f = f.stack
stack-one r_x (Vpop a b) s t f = f.stack
stack-one r_x (LoadLr n) s t f = f.stack
stack-one r_x Nothing s t f = f.stack

pub left-stack : {r_x : ℕ → Type 0} {done : List Code} {s t : State} → Ran r_x done s t → t.stack ≡ s.stack
left-stack none = refl
left-stack {r_x} (next {s = s} {t = t} c f l) = left-stack l ∙ stack-one r_x c.undo s t f

module _ (k : Lent) (e : St) (al : e.sp % 4 ≡ 0) (top : e.sp ≤ end k) (r_x : ℕ → Type 0) where
  -- what is left to undo, in a state whose stack is k
  pub record Rest (cs : List Code) (t : State) : Type 0 where
    pub stack : t.stack ≡ k
    pub inv : Inv k.base e (flat cs) (seen t.regs) (word_at k)

  undoes : (u : Undo) (cs : List Code) {s t : State} → Sound u → Undoes u s t → s.stack ≡ k → Inv k.base e (ops u ++ flat cs) (seen s.regs) (word_at k) → Rest cs t
  undoes u cs {s} {t} o f q v =
      let n = effects k e al top u (flat cs) s.regs o s.whole v in
      let d = f.does n.next (ap (λ x. effect x u s.regs) q ∙ n.runs k (outside-same e.sp (end k) k)) in
      record { stack = f.stack ∙ q; inv = inv-like d.0 (λ x w. value_same d.1 x) n.inv }

  idles : (cs : List Code) {s t : State} → ((x : ℕ) → RX cs x → r_x x) → Idles r_x s t → s.stack ≡ k → Inv k.base e (flat cs) (seen s.regs) (word_at k) → Rest cs t
  idles cs {s} {t} inc f q v = record {
    stack = f.stack ∙ q;
    inv = inv-like f.sp
        (λ x w. f.rest x (λ free. elim (need-cases cs x w) [ inl a ↦ free.1 (inc x a) | inr p ↦ lasting-range x p.0 free.0 ])) v;
  }

  pub leaves :
      (u : Undo) (cs : List Code) (s t : State) → Sound u → ((x : ℕ) → RX cs x → r_x x) → Leaves r_x u s t → s.stack ≡ k
      → Inv k.base e (ops u ++ flat cs) (seen s.regs) (word_at k)
      → Rest cs t
  leaves (Up n) cs s t o inc f q v = undoes (Up n) cs o f q v
  leaves (Pop l) cs s t o inc f q v = undoes (Pop l) cs o f q v
  leaves (SpFrom x) cs s t o inc f q v = undoes (SpFrom x) cs o f q v
  leaves (Vpop a b) cs s t o inc f q v = undoes (Vpop a b) cs o f q v
  leaves (LoadLr n) cs s t o inc f q v = undoes (LoadLr n) cs o f q v
  leaves Nothing cs s t o inc f q v = idles cs inc f q v

  left-rest :
      {done : List Code} {s t : State} (todo : List Code) → AllSound (done ++ todo) → ((x : ℕ) → RX (done ++ todo) x → r_x x) → Ran r_x done s t
      → s.stack ≡ k
      → Inv k.base e (flat (done ++ todo)) (seen s.regs) (word_at k)
      → Rest todo t
  left-rest todo o inc none q v = record { stack = q; inv = v }
  left-rest todo o inc (next {cs = cs} {s = s} {t = t} c f l) q v =
      let r = leaves c.undo (cs ++ todo) s t o.0 (λ x a. inc x (inr a)) f q v in
      left-rest todo o.1 (λ x a. inc x (inr a)) l r.stack r.inv

  pub inv_left :
      {done : List Code} {s t : State} (todo : List Code) → AllSound (done ++ todo) → ((x : ℕ) → RX (done ++ todo) x → r_x x) → Ran r_x done s t
      → s.stack ≡ k
      → Inv k.base e (flat (done ++ todo)) (seen s.regs) (word_at k)
      → Inv k.base e (flat todo) (seen t.regs) (word_at k)
  inv_left todo o inc l q v = (left-rest todo o inc l q v).inv
