-- A prologue whose instructions are its codes', executed in a stack with room, did what its codes undo; nops by what is asked of them.
-- Assumes nothing.
use Prim.Native.Nat.{ℕ, ◌+◌, ◌^◌, ◌≤◌, ◌<◌}
use mathlib.Core.Path.{◌≡◌, refl, sym, subst, ◌∙◌}
use mathlib.Core.Bool.{Bool, true, false}
use mathlib.Core.Logic.{◌≢◌, ◌⊎◌, inl, inr}
use mathlib.Core.List.{List}
use native.Mathlib.Omega.{arith}
use Rattle.lent.specs.Lent.{end}
use Rattle.unwinding.specs.CodeList.{total}
use Rattle.unwinding.proofs.All.{All}
use Rattle.codes.specs.declared.Code.{Code}
use Rattle.codes.specs.declared.Undo.{Undo}
use Rattle.codes.specs.declared.Undo.TheVariants.{Up, Pop, SpFrom, Vpop, LoadLr, Nothing}
use Rattle.comparing.specs.Items.{Coded, size_of, prologue_items}
use Rattle.fitting.specs.Exactly.{AllStand}
use Rattle.forward.specs.Saving.{falls}
use Rattle.forward.specs.State.{State}
use Rattle.forward.specs.Prologue as P
use Rattle.forward.specs.Prologue.{Rests, Does, Done}
use Rattle.forward.specs.Stop as S
use Rattle.forward.specs.Met.{FineOne, Fine, room}
use Rattle.forward.proofs.Executing.{done-place}
use Rattle.executing.specs.Executed.{plain, OfNop, Opened, none, next, Entered, Begins, Past}
use Rattle.executing.proofs.Table.{Known}
use Rattle.executing.proofs.Opening.{Opening, Stays, stays_same, stays-opening, does-of, opened}
use Rattle.executing.proofs.Standing.{of-first}

-- a nop, or not
pub nop-or : (u : Undo) → (u ≢ Nothing) ⊎ (u ≡ Nothing)
nop-or (Up n) = inl (λ h. let z : ◌≡◌ {A = ℕ} 0 1 = cc in omega arith)
nop-or (Pop l) = inl (λ h. let z : ◌≡◌ {A = ℕ} 0 1 = cc in omega arith)
nop-or (SpFrom x) = inl (λ h. let z : ◌≡◌ {A = ℕ} 0 1 = cc in omega arith)
nop-or (Vpop a b) = inl (λ h. let z : ◌≡◌ {A = ℕ} 0 1 = cc in omega arith)
nop-or (LoadLr n) = inl (λ h. let z : ◌≡◌ {A = ℕ} 0 1 = cc in omega arith)
nop-or Nothing = inr refl

stays-one : (before : List Code) (u : Undo) (a b : State) → Opening u a b → OfNop u (Rests before a b) → Stays a b
stays-one before u a b f n = elim (nop-or u) [ inl k ↦ stays-opening u a b k f | inr e ↦ stays_same (rest e).stack ]
  where
    rest : u ≡ Nothing → Rests before a b
    rest e = subst (λ v. OfNop v (Rests before a b)) e n

does-one :
    (before : List Code) (u : Undo) (a b : State) → FineOne before u → Opening u a b → OfNop u (Rests before a b) → a.stack.base + falls u ≤ a.regs.sp
    → a.regs.sp ≤ end a.stack
    → end a.stack < 2 ^ 32
    → Does before u a b
does-one before u a b fine f n low high m =
    elim (nop-or u) [ inl k ↦ does-of before u a b k fine f low high m | inr e ↦ subst (λ v. Does before v a b) (sym e) (subst (λ v. OfNop v (Rests before a b)) e n) ]

module _ (s : List ℕ) where
  pub opened-stays : {entry now : State} {cs : List Coded} → Opened s entry cs now → All Known cs → AllStand (prologue_items s cs) → Stays entry now
  opened-stays none k h = record { base = refl; long = refl }
  opened-stays (next {cs = cs} {a = a} {b = b} c o x n) k h =
      let st = of-first s c cs h in
      let i = opened-stays o k.1 st.0 in
      let j = stays-one (plain cs) c.code.undo a b (opened c k.0 s (total size_of cs) a b st.1 x) n in
      record { base = j.base ∙ i.base; long = j.long ∙ i.long }

  pub opened-done :
      {entry now : State} {cs : List Coded} → Opened s entry cs now → All Known cs → AllStand (prologue_items s cs) → Fine (plain cs)
      → entry.stack.base + room (plain cs) ≤ entry.regs.sp
      → entry.regs.sp ≤ end entry.stack
      → end entry.stack < 2 ^ 32
      → Done entry (plain cs) now
  opened-done none k h fine low high m = P.none
  opened-done (next {cs = cs} {a = a} {b = b} c o x n) k h fine low high m =
      let st = of-first s c cs h in
      let i = opened-done o k.1 st.0 fine.1 (omega arith) high m in
      let p = done-place i in
      P.next c.code i
      (does-one (plain cs) c.code.undo a b fine.0 (opened c k.0 s (total size_of cs) a b st.1 x) n (omega (arith, p.sp, p.base))
      (omega (arith, p.sp, p.base, p.long))
      (omega (arith, p.base, p.long)))

  -- where the stack is known by the state that was left
  pub record Ran (entry now : State) (cs : List Coded) : Type 0 where
    pub done : Done entry (plain cs) now
    pub stays : S.InStack now

  pub entered :
      {entry now : State} {cs : List Coded} → Entered s cs entry now → All Known cs → AllStand (prologue_items s cs) → Fine (plain cs)
      → entry.regs.sp ≤ end now.stack
      → end now.stack < 2 ^ 32
      → Ran entry now cs
  entered e k h fine high m =
      let y = opened-stays e.opened k h in
      let d = opened-done e.opened k h fine e.low (omega (arith, y.base, y.long)) (omega (arith, y.base, y.long)) in
      let p = done-place d in
      record { done = d; stays = omega (arith, p.sp, p.base, e.low) }

  pub past :
      {fragment : Bool} {cs : List Coded} {entry now : State} → Past s fragment cs entry now → (fragment ≡ false → AllStand (prologue_items s cs)) → All Known cs
      → Fine (plain cs)
      → entry.regs.sp ≤ end now.stack
      → end now.stack < 2 ^ 32
      → S.Past (plain cs) entry now
  past {fragment} {cs} {entry} {now} h st k fine high m = go fragment st h.begins
    where
      go : (t : Bool) → (t ≡ false → AllStand (prologue_items s cs)) → Begins s t cs entry h.left → S.Past (plain cs) entry now
      go true st b = record { left = h.left; done = b.0; stays = b.1; keeps = h.keeps }
      go false st b =
          let z = h.keeps in
          let r = entered b k (st refl) fine (omega (arith, z.base, z.long)) (omega (arith, z.base, z.long)) in
          record { left = h.left; done = r.done; stays = r.stays; keeps = h.keeps }
