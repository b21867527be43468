-- The machine's own steps undo what the prologue's did: under the invariant no code is refused, and the answer is the same for every
-- stack that agrees below the caller's SP.
-- Assumes nothing.
use Rattle.std.specs.Prelude.{if◌then◌else◌, Ok}
use Prim.Native.Nat.{ℕ, zero, suc, ◌+◌, ◌-◌, ◌*◌, ◌%◌, ◌^◌, ◌≤◌, ◌<◌}
use mathlib.Core.Path.{◌≡◌, refl, sym, ap, ◌∙◌, subst}
use mathlib.Core.Bool.{Bool, true, false}
use mathlib.Core.Logic.{◌≢◌}
use mathlib.Core.List.{List, [], ◌∷◌, ◌++◌, append_assoc}
use lib.Dec.{ltb}
use native.Mathlib.Omega.{arith}
use borrow.Author.Tests.{eq-eqb, le-leb, lt-ltb, le-ltb}
use Rattle.words.specs.Bits.{bit}
use Rattle.lent.specs.Lent.{Lent, end, word_at}
use Rattle.words.specs.Answer.{Res, ◌>>=◌}
use Rattle.unwinding.specs.CodeList.{run}
use Rattle.unwinding.proofs.All.{All}
use Rattle.codes.specs.declared.Code.{Code}
use Rattle.codes.specs.declared.Undo.{Undo}
use Rattle.codes.specs.declared.Undo.TheVariants.{Up, Pop, SpFrom, Vpop, LoadLr, Nothing}
use Rattle.codes.proofs.Registers.{list-no-sp}
use Rattle.codes.proofs.Sound.{Sound}
use Rattle.machine.specs.Registers.{reg, set_reg, set_d, set_sp}
use Rattle.machine.specs.Step.{stands, load as load_word, pop_reg, pop_d, pop, vpop, effect, step}
use Rattle.machine.specs.declared.Regs.{Regs}
use Rattle.forward.specs.Registers.{value}
use Rattle.forward.specs.Saving.{listed, upward}
use Rattle.forward.specs.State.{Whole, Outside}
use Rattle.forward.proofs.Ops.{Op, load, peek, Seen, upd}
use Rattle.forward.proofs.Back.{St, Exec, more, Near, Inv, back, inv-near}
use Rattle.forward.proofs.Flat.{loads, lr_ops, ops, flat, loads-append}
use Rattle.forward.proofs.Memory.{outside_below}
use Rattle.forward.proofs.Steps.{seen}
use Rattle.forward.proofs.Writing.{whole_reg, whole-d, value-reg, value-d}

-- codes that are the table's
abbrev pub SoundCode : Code → Type 0
SoundCode c = Sound c.undo

abbrev pub AllSound : List Code → Type 0
AllSound cs = All SoundCode cs

module _ (k : Lent) (e : St) (al : e.sp % 4 ≡ 0) (top : e.sp ≤ end k) where
  -- undoing by `act` finds registers from which the rest is still to be undone, in every stack that agrees below the caller's SP
  pub record Undone (act : Lent → Regs → Res Regs) (cs : List Op) (g : Regs) : Type 0 where
    pub next : Regs
    pub whole : Whole next
    pub runs : (k' : Lent) → Outside e.sp (end k) k k' → act k' g ≡ Ok next
    pub inv : Inv k.base e cs (seen next) (word_at k)

  -- a load below the caller's SP
  loaded : (k' : Lent) (a : ℕ) → Outside e.sp (end k) k k' → k.base ≤ a → a + 4 ≤ e.sp → load_word k' a ≡ Ok (word_at k a)
  unfolding load_word
  loaded k' a o b h =
      let p : k'.base ≤ a = omega (arith, o.base) in
      let q : a + 4 ≤ end k' = omega (arith, o.base, o.long) in
      rw (le-leb _ _ p, le-leb _ _ q) (ap Ok (outside_below o a b h))

  pop-one : (x : ℕ) (cs : List Op) (g : Regs) → x < 15 → x ≢ 13 → Whole g → Inv k.base e (load x ∷ cs) (seen g) (word_at k) → Undone (λ k' g. pop_reg k' x g) cs g
  unfolding pop_reg
  pop-one x cs g l n w v =
      let b = back k.base e al v in
      let near = inv-near k.base e al v in
      let wide : ltb x 16 ≡ true = lt-ltb x 16 (omega arith) in
      let b' : Inv k.base e cs (record { sp = g.sp + 4; r = upd (value g) x (word_at k g.sp) }) (word_at k) = rw wide at b in
      let then-near = inv-near k.base e al b' in
      record {
        next = set_sp (set_reg g x (word_at k g.sp)) (g.sp + 4);
        whole = record { r = (whole_reg x (word_at k g.sp) w).r; d = w.d };
        runs = λ k' o. rw (loaded k' g.sp o near.low then-near.high) refl;
        inv = subst (λ f. Inv k.base e cs (record { sp = g.sp + 4; r = f }) (word_at k)) (sym (value-reg g x (word_at k g.sp) w l n)) b';
      }

  pop-d : (x : ℕ) (cs : List Op) (g : Regs) → x < 32 → Whole g → Inv k.base e (load (16 + x) ∷ cs) (seen g) (word_at k) → Undone (λ k' g. pop_d k' x g) cs g
  unfolding pop_d
  pop-d x cs g l w v =
      let b = back k.base e al v in
      let near = inv-near k.base e al v in
      let wide : ltb (16 + x) 16 ≡ false = le-ltb (16 + x) 16 (omega arith) in
      let d : ℕ = word_at k g.sp + 2 ^ 32 * word_at k (g.sp + 4) in
      let b' : Inv k.base e cs (record { sp = g.sp + 8; r = upd (value g) (16 + x) d }) (word_at k) = rw wide at b in
      let then-near = inv-near k.base e al b' in
      record {
        next = set_sp (set_d g x d) (g.sp + 8);
        whole = record { r = w.r; d = (whole-d x d w).d };
        runs = λ k' o.
            rw (loaded k' g.sp o near.low (omega (arith, then-near.high)), loaded k' (g.sp + 4) o (omega (arith, near.low)) (omega (arith, then-near.high))) refl;
        inv = subst (λ f. Inv k.base e cs (record { sp = g.sp + 8; r = f }) (word_at k)) (sym (value-d g x d w l)) b';
      }

  -- one more register of a list, or none
  pop-more :
      (t : Bool) (n : ℕ) (cs : List Op) (g : Regs) → n < 15 → (t ≡ true → n ≢ 13) → Whole g
      → Inv k.base e (loads (if t then n ∷ [] else []) ++ cs) (seen g) (word_at k)
      → Undone (λ k' h. if t then pop_reg k' n h else Ok h) cs g
  pop-more true n cs g l h w v = pop-one n cs g l (h refl) w v
  pop-more false n cs g l h w v = record { next = g; whole = w; runs = λ k' o. refl; inv = v }

  -- one act and then another
  after : {act more : Lent → Regs → Res Regs} {os cs : List Op} {g : Regs} (u : Undone act os g) → Undone more cs u.next → Undone (λ k' g. act k' g >>= λ h. more k' h) cs g
  after {more} u v =
      record { next = v.next; whole = v.whole; runs = λ k' o. ap (λ x. x >>= λ h. more k' h) (u.runs k' o) ∙ v.runs k' o; inv = v.inv }

  pops :
      (l n : ℕ) (cs : List Op) (g : Regs) → bit 13 l ≡ false → n ≤ 15 → Whole g → Inv k.base e (loads (listed l n) ++ cs) (seen g) (word_at k)
      → Undone (λ k' g. pop k' l n g) cs g
  unfolding pop
  pops l zero cs g b h w v = record { next = g; whole = w; runs = λ k' o. refl; inv = v }
  pops l (suc n) cs g b h w v =
      let last : List Op = loads (if bit n l then n ∷ [] else []) in
      let split : loads (listed l n ++ (if bit n l then n ∷ [] else [])) ++ cs ≡ loads (listed l n) ++ (last ++ cs) =
      ap (λ x. x ++ cs) (loads-append (listed l n) (if bit n l then n ∷ [] else [])) ∙ append_assoc (loads (listed l n)) last cs in
      let u = pops l n (last ++ cs) g b (omega arith) w (subst (λ x. Inv k.base e x (seen g) (word_at k)) split v) in
      after u
      (pop-more (bit n l) n cs u.next (omega arith) (λ t q. let z : ◌≡◌ {A = ℕ} 0 1 = cc (ap (λ i. bit i l) q) in omega arith) u.whole u.inv)

  vpops :
      (x n : ℕ) (cs : List Op) (g : Regs) → ((i : ℕ) → i < n → x + i < 32) → Whole g → Inv k.base e (loads (upward (16 + x) n) ++ cs) (seen g) (word_at k)
      → Undone (λ k' g. vpop k' x n g) cs g
  unfolding vpop
  vpops x zero cs g h w v = record { next = g; whole = w; runs = λ k' o. refl; inv = v }
  vpops x (suc n) cs g h w v =
      let same : 16 + x + n ≡ 16 + (x + n) = omega arith in
      let split : loads (upward (16 + x) n ++ ((16 + x + n) ∷ [])) ++ cs ≡ loads (upward (16 + x) n) ++ (load (16 + (x + n)) ∷ cs) =
      ap (λ y. loads (upward (16 + x) n ++ (y ∷ [])) ++ cs) same ∙ ap (λ y. y ++ cs) (loads-append (upward (16 + x) n) ((16 + (x + n)) ∷ []))
      ∙ append_assoc (loads (upward (16 + x) n)) (load (16 + (x + n)) ∷ []) cs in
      let u = vpops x n (load (16 + (x + n)) ∷ cs) g (λ i q. h i (omega arith)) w (subst (λ y. Inv k.base e y (seen g) (word_at k)) split v) in
      after u (pop-d (x + n) cs u.next (h n (omega arith)) u.whole u.inv)

  -- no prologue left its LR in no word
  no-peek : {cs : List Op} {b : Seen} {m : ℕ → ℕ} → Inv k.base e (peek ∷ cs) b m → ⊥
  no-peek v = go v.exec
    where
      go : {cs : List Op} {s : St} → Exec e (peek ∷ cs) s → ⊥
      go (more x f) = f

  load-lr :
      (n : ℕ) (cs : List Op) (g : Regs) → Whole g → Inv k.base e (lr_ops n ++ cs) (seen g) (word_at k)
      → Undone (λ k' g. load_word k' g.sp >>= λ w. Ok (set_sp (set_reg g 14 w) (g.sp + 4 * n))) cs g
  load-lr zero cs g w v = absurd (no-peek v)
  load-lr (suc n) cs g w v =
      let b = back k.base e al v in
      let near = inv-near k.base e al v in
      let then-near = inv-near k.base e al b in
      let c = back k.base e al b in
      let word : ℕ = word_at k g.sp in
      let ne : ◌≢◌ {A = ℕ} 14 13 = λ q. omega arith in
      let sp : g.sp + 4 + 4 * n ≡ g.sp + 4 * suc n = omega arith in
      record {
        next = set_sp (set_reg g 14 word) (g.sp + 4 * suc n);
        whole = record { r = (whole_reg 14 word w).r; d = w.d };
        runs = λ k' o. rw (loaded k' g.sp o near.low then-near.high) refl;
        inv =
            subst (λ f. Inv k.base e cs (record { sp = g.sp + 4 * suc n; r = f }) (word_at k)) (sym (value-reg g 14 word w (omega arith) ne))
            (subst (λ a. Inv k.base e cs (record { sp = a; r = upd (value g) 14 word }) (word_at k)) sp c);
      }

  pub effects :
      (u : Undo) (cs : List Op) (g : Regs) → Sound u → Whole g → Inv k.base e (ops u ++ cs) (seen g) (word_at k)
      → Undone (λ k' g. effect k' u g) cs g
  effects (Up n) cs g s w v =
      record { next = set_sp g (g.sp + 4 * n.0); whole = record { r = w.r; d = w.d }; runs = λ k' o. refl; inv = back k.base e al v }
  effects (Pop l) cs g s w v = pops l 15 cs g (list-no-sp l s) (omega arith) w v
  effects (SpFrom x) cs g s w v =
      let same : value g x ≡ reg g x = rw (lt-ltb x 16 (omega arith)) refl in
      record {
        next = set_sp g (reg g x);
        whole = record { r = w.r; d = w.d };
        runs = λ k' o. refl;
        inv = subst (λ a. Inv k.base e cs (record { sp = a; r = value g }) (word_at k)) same (back k.base e al v);
      }
  effects (Vpop a b) cs g s w v = vpops a (b + 1 - a) cs g (λ i q. omega arith) w v
  effects (LoadLr n) cs g s w v = load-lr n.0 cs g w v
  effects Nothing cs g s w v = record { next = g; whole = w; runs = λ k' o. refl; inv = v }

  -- SP stands in the stack after a code
  stood : (k' : Lent) (a : ℕ) → end k < 2 ^ 32 → Outside e.sp (end k) k k' → Near k.base e.sp a → stands k' a ≡ true
  stood k' a m o n =
      let p : k'.base ≤ a = omega (arith, o.base, n.low) in
      let q : a ≤ end k' = omega (arith, o.base, o.long, n.high) in
      let r : a < 2 ^ 32 = omega (arith, n.high) in
      rw (eq-eqb (a % 4) 0 n.even, le-leb _ _ p, le-leb _ _ q, lt-ltb _ _ r) refl

  stepped :
      (c : Code) (cs : List Op) (g : Regs) → end k < 2 ^ 32 → Sound c.undo → Whole g → Inv k.base e (ops c.undo ++ cs) (seen g) (word_at k)
      → Undone (λ k' g. step k' c g) cs g
  unfolding step
  stepped c cs g m s w v =
      let u = effects c.undo cs g s w v in
      record {
        next = u.next;
        whole = u.whole;
        runs = λ k' o. rw (u.runs k' o, stood k' u.next.sp m o (inv-near k.base e al u.inv)) refl;
        inv = u.inv;
      }

  pub ran : (cs : List Code) (g : Regs) → end k < 2 ^ 32 → AllSound cs → Whole g → Inv k.base e (flat cs) (seen g) (word_at k) → Undone (λ k' g. run (step k') cs g) [] g
  unfolding run
  ran [] g m s w v = record { next = g; whole = w; runs = λ k' o. refl; inv = v }
  ran (c ∷ cs) g m s w v =
      let u = stepped c (flat cs) g m s.0 w v in
      after u (ran cs u.next m s.1 u.whole u.inv)
