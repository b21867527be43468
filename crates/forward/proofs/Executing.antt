-- A prologue for every code list that may have one (RULES 10.21), run from any state with room: each instruction stores what it must and
-- nothing else.
-- Assumes nothing.
use Prim.Native.Nat.{ℕ, ◌+◌, ◌-◌, ◌≤◌}
use mathlib.Core.Path.{◌≡◌, refl, ap, ◌∙◌}
use mathlib.Core.List.{List, [], ◌∷◌, ◌++◌}
use lib.ListN.{length}
use native.Mathlib.Omega.{arith}
use Rattle.lent.specs.Lent.{Lent, end}
use Rattle.words.specs.Units.{stack_bytes}
use Rattle.unwinding.specs.CodeList.{total}
use Rattle.codes.specs.Code.{size}
use Rattle.codes.specs.declared.Code.{Code}
use Rattle.codes.specs.declared.Undo.{Undo}
use Rattle.codes.specs.declared.Undo.TheVariants.{Up, Pop, SpFrom, Vpop, LoadLr, Nothing}
use Rattle.machine.specs.Registers.{set_reg, set_sp, set_pc}
use Rattle.machine.specs.declared.Regs.{Regs}
use Rattle.forward.specs.Registers.{value}
use Rattle.forward.specs.Saving.{saves, bytes, falls}
use Rattle.forward.specs.State.{Whole, State, SameRest, Outside}
use Rattle.forward.specs.Prologue.{Pushes, Does, Done, none, next}
use Rattle.forward.specs.Met.{FineOne, Fine, room, Went, stays, goes}
use Rattle.forward.proofs.Ops.{upd-cases}
use Rattle.forward.proofs.Writing.{whole_reg, value-reg}
use Rattle.forward.proofs.Real.{Solid, set-sp-real, set-real, store-real, store-all-real}
use Rattle.forward.proofs.Storing.{store, store_all, store-outside, word-store, store-all-outside, store-all-stored}
use Rattle.forward.proofs.Memory.{outside-same, outside-more}

regs_after : Undo → Regs → Regs
regs_after (Up n) g = set_sp g (g.sp - stack_bytes n)
regs_after (Pop l) g = set_sp g (g.sp - bytes (saves (Pop l)))
regs_after (SpFrom x) g = set_reg g x g.sp
regs_after (Vpop s e) g = set_sp g (g.sp - bytes (saves (Vpop s e)))
regs_after (LoadLr n) g = set_sp g (g.sp - stack_bytes n)
regs_after Nothing g = g

stack_after : Undo → Regs → Lent → Lent
stack_after (Up n) g k = k
stack_after (Pop l) g k = store_all k (g.sp - bytes (saves (Pop l))) (saves (Pop l)) g
stack_after (SpFrom x) g k = k
stack_after (Vpop s e) g k = store_all k (g.sp - bytes (saves (Vpop s e))) (saves (Vpop s e)) g
stack_after (LoadLr n) g k = store k (g.sp - stack_bytes n) g.lr
stack_after Nothing g k = k

whole-after : (u : Undo) {g : Regs} → Whole g → Whole (regs_after u g)
unfolding regs_after
whole-after (Up n) w = record { r = w.r; d = w.d }
whole-after (Pop l) w = record { r = w.r; d = w.d }
whole-after (SpFrom x) {g} w = whole_reg x g.sp w
whole-after (Vpop s e) w = record { r = w.r; d = w.d }
whole-after (LoadLr n) w = record { r = w.r; d = w.d }
whole-after Nothing w = w

-- the pc is put somewhere
abbrev pub standing : ℕ → State → State
standing a s =
    let w : Whole s.regs = s.whole in
    record { regs = set_pc s.regs a; stack = s.stack; whole = record { r = w.r; d = w.d } }

-- one instruction, after which the pc is past it
exec : Code → State → State
exec c s =
    let w : Whole (regs_after c.undo s.regs) = whole-after c.undo s.whole in
    record { regs = set_pc (regs_after c.undo s.regs) (s.regs.pc + size c); stack = stack_after c.undo s.regs s.stack; whole = record { r = w.r; d = w.d } }

pub after : List Code → State → State
after [] s = s
after (c ∷ cs) s = exec c (after cs s)

-- any state that has what a push leaves
pushes-of :
    (xs : List ℕ) (s t : State) → s.stack.base + bytes xs ≤ s.regs.sp → s.regs.sp ≤ end s.stack → t.regs.sp ≡ s.regs.sp - bytes xs
    → SameRest s.regs t.regs
    → t.stack ≡ store_all s.stack (s.regs.sp - bytes xs) xs s.regs
    → Pushes xs s t
pushes-of xs s t low high p r k =
    let a : ℕ = s.regs.sp - bytes xs in
    let b : s.stack.base ≤ a = omega arith in
    let h : a + bytes xs ≤ end s.stack = omega arith in
    let o : Outside a s.regs.sp s.stack (store_all s.stack a xs s.regs) = outside-more (store-all-outside xs s.stack a s.regs b h) (omega arith) (omega arith) in
    record {
      falls = record { sp = omega arith; rest = r; stack = rw (p, k) o };
      stored = rw (p, k) (store-all-stored xs s.stack a s.regs b h);
    }

does-exec :
    (cs : List Code) (u : Undo) (n : ℕ) (s : State) → FineOne cs u → s.stack.base + falls u ≤ s.regs.sp → s.regs.sp ≤ end s.stack
    → Does cs u s (exec (record { undo = u; size = record { 0 = n } }) s)
unfolding exec regs_after stack_after whole-after
does-exec cs (Up m) n s f low high =
    record { sp = omega arith; rest = record { r = refl; lr = refl; d = refl }; stack = outside-same _ _ s.stack }
does-exec cs (Pop l) n s f low high = pushes-of (saves (Pop l)) s (exec (record { undo = Pop l; size = record { 0 = n } }) s) low high refl (record { r = refl; lr = refl; d = refl }) refl
does-exec cs (SpFrom x) n s f low high =
    let e = value-reg s.regs x s.regs.sp s.whole f.named f.other in
    record {
      sp = refl;
      r_x = ap (λ v. v x) e ∙ upd-cases (λ v. v ≡ s.regs.sp) (value s.regs) x s.regs.sp x (λ q. refl) (λ q. absurd (q refl));
      rest = λ y q. ap (λ v. v y) e ∙ upd-cases (λ v. v ≡ value s.regs y) (value s.regs) x s.regs.sp y (λ z. absurd (q z)) (λ z. refl);
      stack = refl;
      once = λ y q. absurd (f.once y q);
      saved = f.saved;
    }
does-exec cs (Vpop a b) n s f low high =
    pushes-of (saves (Vpop a b)) s (exec (record { undo = Vpop a b; size = record { 0 = n } }) s) low high refl (record { r = refl; lr = refl; d = refl }) refl
does-exec cs (LoadLr m) n s f low high =
    let a : ℕ = s.regs.sp - stack_bytes m in
    record {
      falls = record { sp = omega arith; rest = record { r = refl; lr = refl; d = refl }; stack = store-outside s.stack a s.regs.lr (omega arith) };
      stored = word-store s.stack a s.regs.lr (omega arith) (omega arith);
      some = omega arith;
    }
does-exec cs Nothing n s f low high = record { stack = refl; sp = refl; r_x = λ x q. refl; unsaved = λ x q z. refl }

-- ---- a whole list
pub record Place (e t : State) (down : ℕ) : Type 0 where
  pub sp : t.regs.sp + down ≡ e.regs.sp
  pub base : t.stack.base ≡ e.stack.base
  pub long : length t.stack.bytes ≡ length e.stack.bytes

pushes-place : {xs : List ℕ} {s t : State} → Pushes xs s t → Place s t (bytes xs)
pushes-place f = record { sp = f.falls.sp; base = f.falls.stack.base; long = f.falls.stack.long }

does-place : (cs : List Code) (u : Undo) (s t : State) → Does cs u s t → Place s t (falls u)
does-place cs (Up n) s t f = record { sp = f.sp; base = f.stack.base; long = f.stack.long }
does-place cs (Pop l) s t f = pushes-place f
does-place cs (SpFrom x) s t f =
    record { sp = omega (arith, f.sp); base = ap (λ (k : Lent). k.base) f.stack; long = ap (λ (k : Lent). length k.bytes) f.stack }
does-place cs (Vpop a b) s t f = pushes-place f
does-place cs (LoadLr n) s t f = record { sp = f.falls.sp; base = f.falls.stack.base; long = f.falls.stack.long }
does-place cs Nothing s t f =
    record { sp = omega (arith, f.sp); base = ap (λ (k : Lent). k.base) f.stack; long = ap (λ (k : Lent). length k.bytes) f.stack }

-- a prologue's SP is below the entry's by what its instructions take
pub done-place : {e t : State} {cs : List Code} → Done e cs t → Place e t (room cs)
done-place none = record { sp = omega arith; base = refl; long = refl }
done-place (next {cs = cs} {s = s} {t = t} c h f) =
    let i = done-place h in
    let p = does-place cs c.undo s t f in
    record { sp = omega (arith, p.sp, i.sp); base = p.base ∙ i.base; long = p.long ∙ i.long }

pub room-append : (a b : List Code) → room (a ++ b) ≡ room a + room b
room-append [] b = omega arith
room-append (c ∷ a) b = omega (arith, room-append a b)

-- some of the instructions and then more of them
pub done-went : {before : List Code} {e s : State} {cs : List Code} {t : State} → Done e before s → Went before s cs t → Done e (cs ++ before) t
done-went h stays = h
done-went h (goes c w f) = next c (done-went h w) f

pub record After (before : List Code) (s : State) (cs : List Code) : Type 0 where
  pub went : Went before s cs (after cs s)
  pub place : Place s (after cs s) (room cs)
  pub pc : (after cs s).regs.pc ≡ s.regs.pc + total size cs

pub runs :
    (before : List Code) (s : State) (cs : List Code) → Fine (cs ++ before) → s.stack.base + room cs ≤ s.regs.sp → s.regs.sp ≤ end s.stack
    → After before s cs
unfolding after exec total regs_after
runs before s [] f low high = record { went = stays; place = record { sp = omega arith; base = refl; long = refl }; pc = omega arith }
runs before s (c ∷ cs) f low high =
    let i = runs before s cs f.1 (omega arith) high in
    let t : State = after cs s in
    let p = i.place in
    let d = does-exec (cs ++ before) c.undo c.size.0 t f.0 (omega (arith, p.sp, p.base)) (omega (arith, p.sp, p.base, p.long)) in
    let q = does-place (cs ++ before) c.undo t (exec c t) d in
    record {
      went = goes c i.went d;
      place = record { sp = omega (arith, p.sp, q.sp); base = q.base ∙ p.base; long = q.long ∙ p.long };
      pc = omega (arith, i.pc);
    }

-- ---- and it leaves registers of their sizes and bytes
solid-exec : (u : Undo) (g : Regs) (k : Lent) → Solid g k → Solid (regs_after u g) (stack_after u g k)
unfolding regs_after stack_after
solid-exec (Up n) g k w = record { real = set-sp-real (g.sp - stack_bytes n) w.real; bytes = w.bytes; sp = omega (arith, w.sp) }
solid-exec (Pop l) g k w =
    let a : ℕ = g.sp - bytes (saves (Pop l)) in
    record { real = set-sp-real a w.real; bytes = store-all-real (saves (Pop l)) k a g w.bytes w.real; sp = omega (arith, w.sp) }
solid-exec (SpFrom x) g k w = record { real = set-real x g.sp w.real w.sp; bytes = w.bytes; sp = w.sp }
solid-exec (Vpop s e) g k w =
    let a : ℕ = g.sp - bytes (saves (Vpop s e)) in
    record { real = set-sp-real a w.real; bytes = store-all-real (saves (Vpop s e)) k a g w.bytes w.real; sp = omega (arith, w.sp) }
solid-exec (LoadLr n) g k w =
    let a : ℕ = g.sp - stack_bytes n in
    record { real = set-sp-real a w.real; bytes = store-real k a g.lr w.bytes w.real.lr; sp = omega (arith, w.sp) }
solid-exec Nothing g k w = w

pub after-solid : (e : State) (cs : List Code) → Solid e.regs e.stack → Solid (after cs e).regs (after cs e).stack
unfolding after exec
after-solid e [] w = w
after-solid e (c ∷ cs) w =
    let i = solid-exec c.undo (after cs e).regs (after cs e).stack (after-solid e cs w) in
    let r = i.real in
    record { real = record { r = r.r; lr = r.lr; d = r.d }; bytes = i.bytes; sp = i.sp }
