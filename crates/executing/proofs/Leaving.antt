-- An epilogue whose instructions are its codes', executed where undoing its codes is possible, undid as its codes do; nops by what is asked
-- of them.
-- Assumes nothing.
use Prim.Native.Nat.{ℕ, ◌+◌, ◌%◌, ◌^◌, ◌≤◌, ◌<◌}
use mathlib.Core.Path.{◌≡◌, refl, sym, ap, subst, ◌∙◌}
use mathlib.Core.Bool.{false}
use mathlib.Core.Logic.{◌≢◌, inl, inr}
use mathlib.Core.List.{List, ◌∷◌, ◌++◌}
use native.Mathlib.Omega.{arith}
use Rattle.words.proofs.Answers.{ok_same}
use Rattle.lent.specs.Lent.{Lent, end, word_at}
use Rattle.unwinding.specs.CodeList.{total}
use Rattle.unwinding.proofs.All.{All}
use Rattle.codes.specs.declared.Undo.{Undo}
use Rattle.codes.specs.declared.Undo.TheVariants.{Up, Pop, SpFrom, Vpop, LoadLr, Nothing}
use Rattle.codes.proofs.Sound.{Sound}
use Rattle.machine.specs.Step.{effect}
use Rattle.machine.specs.declared.Regs.{Regs}
use Rattle.comparing.specs.Items.{Coded, size_of, closes, item, epilogue_items}
use Rattle.fitting.specs.Exactly.{Stands, AllStand}
use Rattle.forward.specs.Saving.{RX}
use Rattle.forward.specs.State.{State}
use Rattle.forward.specs.Epilogue as E
use Rattle.forward.specs.Epilogue.{Undoes, Idles, Leaves, Ran}
use Rattle.forward.proofs.Back.{St, Inv, inv-near}
use Rattle.forward.proofs.Flat.{ops, flat}
use Rattle.forward.proofs.Steps.{seen}
use Rattle.forward.proofs.Memory.{outside-same}
use Rattle.forward.proofs.Ops.{Op}
use Rattle.forward.proofs.Undoing.{effects}
use Rattle.forward.proofs.Leaving.{leaves}
use Rattle.executing.specs.Executed.{plain, OfNop, Closed, none, next}
use Rattle.executing.specs.Claims.{Low}
use Rattle.executing.proofs.Table.{Known}
use Rattle.executing.proofs.Closing.{Closing, stack-closing, undoes-of, closed}
use Rattle.executing.proofs.Standing.{not_last}
use Rattle.executing.proofs.Entering.{nop-or}

leaves_of : (r_x : ℕ → Type 0) (u : Undo) (a b : State) → u ≢ Nothing → Undoes u a b → Leaves r_x u a b
leaves_of r_x (Up n) a b k f = f
leaves_of r_x (Pop l) a b k f = f
leaves_of r_x (SpFrom x) a b k f = f
leaves_of r_x (Vpop i j) a b k f = f
leaves_of r_x (LoadLr n) a b k f = f
leaves_of r_x Nothing a b k f = absurd (k refl)

-- no instruction of an epilogue writes memory
stack-one : (r_x : ℕ → Type 0) (u : Undo) (a b : State) → Closing u a b → OfNop u (Idles r_x a b) → b.stack ≡ a.stack
stack-one r_x u a b f n = elim (nop-or u) [ inl k ↦ stack-closing u a b k f | inr e ↦ (idle e).stack ]
  where
    idle : u ≡ Nothing → Idles r_x a b
    idle e = subst (λ v. OfNop v (Idles r_x a b)) e n

leaves-one : (r_x : ℕ → Type 0) (u : Undo) (a b : State) → Sound u → Closing u a b → OfNop u (Idles r_x a b) → Low u a → Leaves r_x u a b
leaves-one r_x u a b o f n low =
    elim (nop-or u) [ inl k ↦ leaves_of r_x u a b k (undoes-of u a b k o f low) | inr e ↦ subst (λ v. Leaves r_x v a b) (sym e) (subst (λ v. OfNop v (Idles r_x a b)) e n) ]

module _ (s : List ℕ) (undone : List Coded) (en : ℕ) where
  -- of a list whose first codes' instructions were executed, none of them the last before FF
  pub record Part (o : ℕ) (gone : List Coded) : Type 0 where
    pub known : All Known (gone ++ undone)
    pub stand : AllStand (epilogue_items s o (gone ++ undone) en)
    pub inside : total size_of gone < total size_of (gone ++ undone) + en

  record First (o : ℕ) (c : Coded) (cs : List Coded) : Type 0 where
    known : Known c
    stand : Stands (item s o (closes false c))
    rest : Part (o + size_of c) cs

  first : (o : ℕ) (c : Coded) (cs : List Coded) → Part o (c ∷ cs) → First o c cs
  unfolding epilogue_items total
  first o c cs p =
      let l : total size_of cs < total size_of (cs ++ undone) + en = omega (arith, p.inside) in
      record {
        known = p.known.0;
        stand = subst (λ t. Stands (item s o (closes t c))) (not_last (cs ++ undone) (total size_of cs) en l) p.stand.0;
        rest = record { known = p.known.1; stand = p.stand.1; inside = l };
      }

  pub closed-stack : {r_x : ℕ → Type 0} {o : ℕ} {gone : List Coded} {a z : State} → Closed s r_x o gone a z → Part o gone → z.stack ≡ a.stack
  closed-stack none p = refl
  closed-stack {r_x} {o} (next {cs = cs} {a = a} {b = b} c x n l) p =
      let f = first o c cs p in
      closed-stack l f.rest ∙ stack-one r_x c.code.undo a b (closed c f.known s o a b f.stand x) n

  module _ (k : Lent) (e : St) (al : e.sp % 4 ≡ 0) (top : e.sp ≤ end k) (m : end k < 2 ^ 32) (r_x : ℕ → Type 0) where
    -- the SP that a code leaves is at most the entry's
    low_of : (u : Undo) (os : List Op) (a : State) → Sound u → a.stack ≡ k → Inv k.base e (ops u ++ os) (seen a.regs) (word_at k) → Low u a
    low_of u os a o q v after h =
        let n = effects k e al top u os a.regs o a.whole v in
        let near = inv-near k.base e al n.inv in
        let z : n.next ≡ after = ok_same _ _ (sym (n.runs k (outside-same e.sp (end k) k)) ∙ ap (λ x. effect x u a.regs) (sym q) ∙ h) in
        subst (λ (g : Regs). g.sp < 2 ^ 32) z (omega (arith, near.high))

    pub closed-ran :
        {o : ℕ} {gone : List Coded} {a z : State} → Closed s r_x o gone a z → Part o gone → ((x : ℕ) → RX (plain (gone ++ undone)) x → r_x x) → a.stack ≡ k
        → Inv k.base e (flat (plain (gone ++ undone))) (seen a.regs) (word_at k)
        → Ran r_x (plain gone) a z
    closed-ran none p inc q v = E.none
    closed-ran {o} (next {cs = cs} {a = a} {b = b} c x n l) p inc q v =
        let u : Undo = c.code.undo in
        let f = first o c cs p in
        let w = leaves-one r_x u a b f.known.sound (closed c f.known s o a b f.stand x) n (low_of u (flat (plain (cs ++ undone))) a f.known.sound q v) in
        let r = leaves k e al top r_x u (plain (cs ++ undone)) a b f.known.sound (λ y h. inc y (inr h)) w q v in
        E.next c.code w (closed-ran l f.rest (λ y h. inc y (inr h)) r.stack r.inv)
