-- The conditions (RULES 10.9 to 10.16) give what undoing needs: the prologue's instructions are the steps, and what the body keeps is
-- enough.
-- Assumes nothing.
use Prim.Native.Nat.{ℕ, zero, suc, ◌+◌, ◌*◌, ◌%◌, ◌≤◌, ◌<◌}
use mathlib.Core.Path.{◌≡◌, refl, sym, ap, ◌∙◌, subst}
use mathlib.Core.Logic.{inl, inr}
use mathlib.Core.List.{List, [], ◌∷◌, ◌++◌}
use native.Mathlib.Omega.{arith}
use Rattle.lent.specs.Lent.{Lent, word_at}
use Rattle.codes.specs.declared.Code.{Code}
use Rattle.codes.specs.declared.Undo.{Undo}
use Rattle.codes.specs.declared.Undo.TheVariants.{Up, Pop, SpFrom, Vpop, LoadLr, Nothing}
use Rattle.machine.specs.declared.Regs.{Regs}
use Rattle.forward.specs.Registers.{value, width}
use Rattle.forward.specs.Saving.{saves, bytes}
use Rattle.forward.specs.State.{State, SameRest}
use Rattle.forward.specs.Prologue.{Stored, Falls, Does, Done, none, next}
use Rattle.forward.specs.Body.{Wanted, SpAfter, SpIn, Body}
use Rattle.forward.proofs.Ops.{Op, skip, load, from, peek, Seen, val, Kept, kept_frame, kept_same}
use Rattle.forward.proofs.Back.{St, Above, Forward, Slack, Fwd, Exec, done, more, SpAt, Keeps, sp-at, exec-fits, Near, Inv}
use Rattle.forward.proofs.Memory.{outside_above}
use Rattle.forward.proofs.Flat.{lr_ops, loads, ops, flat, need-cases, words-kept}

-- a machine's state and its registers, as undoing sees them
abbrev pub seen : Regs → Seen
seen g = record { sp = g.sp; r = value g }

abbrev pub st : State → St
st s = record { sp = s.regs.sp; r = value s.regs; m = word_at s.stack }

pub value_same : {g h : Regs} → SameRest g h → (x : ℕ) → value h x ≡ value g x
value_same e x = rw (e.r, e.lr, e.d) refl

-- ---- forwards
-- the steps of cs left some state that t keeps
pub record Ran (e : St) (cs : List Op) (t : St) : Type 0 where
  pub s : St
  pub exec : Exec e cs s
  pub slack : Slack cs s t

same-slack : (cs : List Op) (t : St) → Slack cs t t
same-slack cs t = record { sp = omega arith; r = λ y a w. refl; above = λ a h. refl; at = tt }

-- slack before a step is the step's
slack-then : {cs : List Op} {w : ℕ} {R : ℕ → Type 0} {G H : Type 0} {s t u : St} → Slack cs s t → Forward cs w R G t u → (G → H) → Forward cs w R H s u
slack-then h k g = record {
  sp = omega (arith, h.sp, k.sp);
  r = λ y a w. k.r y a w ∙ h.r y tt w;
  above = λ a l. k.above a (omega (arith, h.sp)) ∙ h.above a l;
  at = g k.at;
}

fwd-slack : (cs : List Op) (c : Op) {s t : St} (u : St) → Slack cs s t → Fwd cs c t u → Fwd cs c s u
fwd-slack cs (skip n) u h f = slack-then h f (λ a. a)
fwd-slack cs (load x) u h f = slack-then h f (λ a v. a v ∙ h.r x tt v)
fwd-slack cs (from x) {s} {t} u h f = slack-then h f (λ a. (let p : t.sp ≡ s.sp = omega (arith, h.sp) in a.0 ∙ p, a.1))
fwd-slack cs peek u h f = absurd f

pub ran-more : {e : St} {cs : List Op} {s t : St} (c : Op) → Ran e cs s → Fwd cs c s t → Ran e (c ∷ cs) t
ran-more {cs} {t} c l f =
    record { s = t; exec = more {c = c} l.exec (fwd-slack cs c t l.slack f); slack = same-slack (c ∷ cs) t }

pub ran-slack : {e : St} {cs : List Op} {s t : St} → Ran e cs s → Slack cs s t → Ran e cs t
ran-slack l h = record { s = l.s; exec = l.exec; slack = slack-then l.slack h (λ a. a) }

-- a push of a list is a push of each, the highest first; k: the stack after it
pushes :
    (e : St) (cs : List Op) (s : State) (k : Lent) (xs : List ℕ) (t : St) → Ran e cs (st s) → t.sp + bytes xs ≡ s.regs.sp
    → ((y : ℕ) → t.r y ≡ value s.regs y)
    → t.m ≡ word_at k
    → Above s.regs.sp (st s) t
    → Stored k t.sp xs s.regs
    → Ran e (loads xs ++ cs) t
pushes e cs s k [] t l p r w o h = ran-slack l (record { sp = p; r = λ y a v. r y; above = o; at = tt })
pushes e cs s k (x ∷ xs) t l p r w o h =
    let t₁ : St = record { sp = t.sp + width x; r = t.r; m = t.m } in
    ran-more (load x) (pushes e cs s k xs t₁ l (omega arith) r w o h.1)
    (record { sp = refl; r = λ y a v. refl; above = λ a q. refl; at = λ v. ap (λ m. val x m t.sp) w ∙ h.0 ∙ sym (r x) })

-- SP falls: the registers and the words from the old SP up are the same
falls-r : {n hi : ℕ} {s t : State} → Falls n hi s t → (y : ℕ) → value t.regs y ≡ value s.regs y
falls-r f y = value_same f.rest y

store-lr :
    (e : St) (cs : List Op) (n : ℕ) (s t : State) → Ran e cs (st s) → Falls (4 * suc n) (t.regs.sp + 4) s t → word_at t.stack t.regs.sp ≡ s.regs.lr
    → Ran e (load 14 ∷ skip n ∷ cs) (st t)
store-lr e cs n s t l f h =
    let t₁ : St = record { sp = t.regs.sp + 4; r = value t.regs; m = word_at t.stack } in
    ran-more (load 14)
    (ran-more {t = t₁} (skip n) l (record {
      sp = omega (arith, f.sp);
      r = λ y a w. falls-r f y;
      above = λ a q. outside_above f.stack a (omega (arith, f.sp));
      at = tt;
    }))
    (record { sp = refl; r = λ y a w. refl; above = λ a q. refl; at = λ w. h ∙ sym (falls-r f 14) })

does-ran : (e : St) (cs : List Code) (u : Undo) (s t : State) → Ran e (flat cs) (st s) → Does cs u s t → Ran e (ops u ++ flat cs) (st t)
does-ran e cs (Up n) s t l f =
    ran-more (skip n.0) l (record { sp = f.sp; r = λ y a w. falls-r f y; above = λ a q. outside_above f.stack a q; at = tt })
does-ran e cs (Pop w) s t l f =
    pushes e (flat cs) s t.stack (saves (Pop w)) (st t) l f.falls.sp (falls-r f.falls) refl (outside_above f.falls.stack) f.stored
does-ran e cs (SpFrom x) s t l f =
    ran-more (from x) l (record {
      sp = omega (arith, f.sp);
      r = λ y a w. f.rest y a;
      above = λ a q. ap (λ k. word_at k a) f.stack;
      at = (f.r_x, λ w. elim (need-cases cs x w) [ inl q ↦ f.once x q | inr p ↦ p.1 (f.saved p.0) ]);
    })
does-ran e cs (Vpop a b) s t l f =
    pushes e (flat cs) s t.stack (saves (Vpop a b)) (st t) l f.falls.sp (falls-r f.falls) refl (outside_above f.falls.stack) f.stored
does-ran e cs (LoadLr n) s t l f = go n.0 f.some f.falls
  where
    go : (i : ℕ) → 0 < i → Falls (4 * i) (t.regs.sp + 4) s t → Ran e (lr_ops i ++ flat cs) (st t)
    go zero h g = absurd (let z : 0 < 0 = h in omega arith)
    go (suc i) h g = store-lr e (flat cs) i s t l g f.stored
does-ran e cs Nothing s t l f =
    ran-slack l (record {
      sp = omega (arith, f.sp);
      r = λ y a w. elim (need-cases cs y w) [ inl q ↦ f.r_x y q | inr p ↦ f.unsaved y p.0 p.1 ];
      above = λ a q. ap (λ k. word_at k a) f.stack;
      at = tt;
    })

pub done-ran : {e t : State} {cs : List Code} → Done e cs t → Ran (st e) (flat cs) (st t)
done-ran {e} none = record { s = st e; exec = done; slack = same-slack [] (st e) }
done-ran {e} (next {cs = cs} {s = s} {t = t} c h f) = does-ran (st e) cs c.undo s t (done-ran h) f

-- SP of the state that the prologue left
pub done-fits : {e t : State} {cs : List Code} → Done e cs t → e.regs.sp % 4 ≡ 0 → (t.regs.sp ≤ e.regs.sp) × (t.regs.sp % 4 ≡ 0)
done-fits h al =
    let l = done-ran h in
    let i = exec-fits l.exec al in
    omega (arith, l.slack.sp)

-- ---- the body
keeps-slack : {cs : List Op} {s t : St} {b : Seen} {m : ℕ → ℕ} → Slack cs s t → Keeps cs t b m → Keeps cs s b m
keeps-slack {cs} {s} {t} {b} {m} h k =
    let p : t.sp ≡ s.sp = omega (arith, h.sp) in
    record {
      sp_at = subst (λ a. SpAt cs a b.sp) p k.sp_at;
      regs = λ y w. k.regs y w ∙ h.r y tt w;
      words = kept_frame m t.m s.m cs s.sp h.above (subst (λ a. Kept m t.m cs a) p k.words);
    }

pub inv-of :
    {base : ℕ} {e : St} {cs : List Op} {t : St} {b : Seen} {m : ℕ → ℕ} → Ran e cs t → Near base t.sp b.sp → Keeps cs t b m
    → Inv base e cs b m
inv-of {cs} l near k =
    record { s = l.s; exec = l.exec; keeps = keeps-slack l.slack k; near = record { even = near.even; low = near.low; high = omega (arith, l.slack.sp) } }

after-at : (u : Undo) (cs : List Op) (base a b : ℕ) → SpAfter u base a b → SpAt (ops u ++ cs) a b
after-at (Up n) cs base a b h = h
after-at (Pop l) cs base a b h = sp-at (loads (saves (Pop l)) ++ cs) h
after-at (SpFrom x) cs base a b h = tt
after-at (Vpop s e) cs base a b h = sp-at (loads (saves (Vpop s e)) ++ cs) h
after-at (LoadLr n) cs base a b h = sp-at (lr_ops n.0 ++ cs) h
after-at Nothing cs base a b h = sp-at cs h

in-at : (cs : List Code) (base a b : ℕ) → SpIn cs base a b → SpAt (flat cs) a b
in-at [] base a b h = h
in-at (c ∷ cs) base a b h = after-at c.undo (flat cs) base a b h

after-near : (u : Undo) (base a b : ℕ) → SpAfter u base a b → a % 4 ≡ 0 → base ≤ a → Near base a b
after-near (Up n) base a b h i j = record { even = omega arith; low = omega arith; high = omega arith }
after-near (Pop l) base a b h i j = record { even = omega arith; low = omega arith; high = omega arith }
after-near (SpFrom x) base a b h i j = record { even = omega arith; low = omega arith; high = omega arith }
after-near (Vpop s e) base a b h i j = record { even = omega arith; low = omega arith; high = omega arith }
after-near (LoadLr n) base a b h i j = record { even = omega arith; low = omega arith; high = omega arith }
after-near Nothing base a b h i j = record { even = omega arith; low = omega arith; high = omega arith }

in_near : (cs : List Code) (base a b : ℕ) → SpIn cs base a b → a % 4 ≡ 0 → base ≤ a → Near base a b
in_near [] base a b h i j = record { even = omega arith; low = omega arith; high = omega arith }
in_near (c ∷ cs) base a b h i j = after-near c.undo base a b h i j

-- stopped in the prologue
pub inv-prologue :
    {e t : State} {cs : List Code} → e.regs.sp % 4 ≡ 0 → Done e cs t → t.stack.base ≤ t.regs.sp
    → Inv t.stack.base (st e) (flat cs) (seen t.regs) (word_at t.stack)
inv-prologue {t} {cs} al h low =
    let i = done-fits h al in
    inv-of (done-ran h) (record { even = i.1; low = low; high = omega arith })
    (record { sp_at = sp-at (flat cs) refl; regs = λ y w. refl; words = kept_same (word_at t.stack) (flat cs) t.regs.sp })

-- stopped in the body
pub inv-body :
    {e s t : State} {cs : List Code} → e.regs.sp % 4 ≡ 0 → Done e cs s → s.stack.base ≤ s.regs.sp → Body cs s t
    → Inv t.stack.base (st e) (flat cs) (seen t.regs) (word_at t.stack)
inv-body {e} {s} {t} {cs} al h low k =
    subst (λ b. Inv b (st e) (flat cs) (seen t.regs) (word_at t.stack)) (sym k.base)
    (inv-of (done-ran h) (in_near cs s.stack.base s.regs.sp t.regs.sp k.sp (done-fits h al).1 low) (record {
      sp_at = in-at cs s.stack.base s.regs.sp t.regs.sp k.sp;
      regs = λ y w. elim (need-cases cs y w) [ inl q ↦ k.r_x y q | inr p ↦ k.unsaved y p.0 p.1 ];
      words = words-kept (Wanted cs) s.stack t.stack cs s.regs.sp (λ x q. q) k.words;
    }))
