-- At each stop the codes left to undo there are those of the instructions to undo, and the invariant holds of them.
-- Assumes nothing.
use Rattle.std.specs.Prelude.{Ok}
use Prim.Native.Nat.{ℕ, ◌%◌, ◌≤◌}
use mathlib.Core.Path.{◌≡◌, refl, sym, subst}
use mathlib.Core.List.{List, ◌++◌}
use native.Mathlib.Omega.{arith}
use borrow.Author.Tests.{eq-eqb}
use Rattle.lent.specs.Lent.{Lent, end, word_at}
use Rattle.words.specs.declared.Place.{Place}
use Rattle.words.specs.declared.Place.TheVariants.{Prologue, Body, Epilogue}
use Rattle.unwinding.specs.CodeList.{total}
use Rattle.unwinding.specs.Shape.{Shape}
use Rattle.unwinding.specs.View.{EpilogueOf, View}
use Rattle.unwinding.specs.Todo.{todo}
use Rattle.unwinding.specs.declared.Scope.{Scope}
use Rattle.codes.specs.Code.{size, codes_at}
use Rattle.codes.specs.Condition.{executing}
use Rattle.codes.specs.declared.Code.{Code}
use Rattle.pdata.specs.declared.Entry.{Entry}
use Rattle.forward.specs.Saving.{RX}
use Rattle.forward.specs.State.{State}
use Rattle.unwinding.specs.Listed.{Of}
use Rattle.forward.specs.Epilogues.{Fit}
use Rattle.forward.specs.Stop.{codes_of, InPrologue, InBody, InEpilogue, Stopped, prologue, body, epilogue}
use Rattle.forward.proofs.Ops.{Seen}
use Rattle.forward.proofs.Back.{St, Inv}
use Rattle.forward.proofs.Flat.{flat}
use Rattle.forward.proofs.Steps.{seen, st, inv-prologue, inv-body}
use Rattle.forward.proofs.Undoing.{SoundCode, AllSound}
use Rattle.forward.proofs.Leaving.{inv_left, left-stack}
use Rattle.forward.proofs.Scanned.{codes-sound}
use Rattle.unwinding.proofs.All.{Sized, all-front, all_end}
use Rattle.reader.proofs.Sizes.{codes-sized}
use Rattle.unwinding.proofs.Viewed.{Viewed, read_of}
use Rattle.unwinding.proofs.Places.{todo-prologue, todo-body, todo-epilogue}

-- the second list undoes what the first does
pub record Second (first second : List Code) : Type 0 where
  pub inv : (base : ℕ) (e : St) (b : Seen) (m : ℕ → ℕ) → Inv base e (flat first) b m → Inv base e (flat second) b m
  pub r_x : (x : ℕ) → RX second x → RX first x

pub record Ready (v : View Code) (entry : State) (o : ℕ) (now : State) (p : Place) (cs : List Code) : Type 0 where
  pub todo : todo size executing v o ≡ Ok (record { place = p; codes = cs })
  pub sound : AllSound cs
  pub inv : Inv now.stack.base (st entry) (flat cs) (seen now.regs) (word_at now.stack)

module _ (r : Entry) (s : Shape) (v : View Code) (entry : State) (w : Viewed size codes_at s v) (al : entry.regs.sp % 4 ≡ 0) where
  ready-prologue : {o : ℕ} {now : State} {cs : List Code} → InPrologue v entry o now cs → Ready v entry o now Prologue cs
  ready-prologue {o} {cs = cs} h =
      let e : total size cs ≡ o = sym h.offset in
      record {
        todo = subst (λ n. todo size executing v n ≡ Ok (record { place = Prologue; codes = cs })) e (todo-prologue size executing v h.ahead cs h.codes (all-front _ h.ahead cs (subst (Sized size) h.codes (codes-sized _ _ _ w.codes))) (omega (arith, e, h.early)));
        sound = all_end SoundCode h.ahead cs (subst AllSound h.codes (codes-sound _ _ _ w.codes));
        inv = inv-prologue al h.done h.stays;
      }

  ready-body : {o : ℕ} {now : State} → InBody v entry o now → Ready v entry o now Body (codes_of v)
  ready-body {o} h = record {
    todo = todo-body size executing v o h.late h.outside;
    sound = codes-sound _ _ _ w.codes;
    inv = inv-body al h.past.done h.past.stays h.past.keeps;
  }

  ready-epilogue :
      {o : ℕ} {now : State} {cs : List Code} (h : InEpilogue r s v entry o now cs) → entry.regs.sp ≤ end now.stack → Second (codes_of v) h.read.codes.list
      → Ready v entry o now Epilogue cs
  ready-epilogue {o} {now} {cs} h top q =
      let x = read_of size codes_at s w.epilogues h.listed in
      let k : Lent = h.start.stack in
      let stack : now.stack ≡ k = left-stack h.ran in
      let sound : AllSound (h.gone ++ cs) = subst AllSound h.codes (codes-sound _ _ _ x.codes) in
      let i = q.inv _ _ _ _ (inv-body al h.past.done h.past.stays h.past.keeps) in
      let j = inv_left k (st entry) al (subst (λ (y : Lent). entry.regs.sp ≤ end y) stack top) (RX (codes_of v)) cs sound
      (λ x a. q.r_x x (subst (λ y. RX y x) (sym h.codes) a)) h.ran refl
      (subst (λ y. Inv k.base (st entry) (flat y) (seen h.start.regs) (word_at k)) h.codes i) in
      record {
        todo = subst (λ n. todo size executing v n ≡ Ok (record { place = Epilogue; codes = cs })) (sym h.offset)
            (todo-epilogue size executing s.span v h.gone cs w.fit h.listed (eq-eqb _ _ h.unconditional) x.long (all-front _ h.gone cs (subst (Sized size) h.codes (codes-sized _ _ _ x.codes))) h.codes h.inside);
        sound = all_end SoundCode h.gone cs sound;
        inv = subst (λ (y : Lent). Inv y.base (st entry) (flat cs) (seen now.regs) (word_at y)) (sym stack) j;
      }

  pub ready :
      {o : ℕ} {now : State} {p : Place} {cs : List Code}
      → ((sc : Scope) (ex : EpilogueOf Code) → Of sc ex s.scopes v.epilogues → Fit r sc → Second (codes_of v) ex.codes.list)
      → entry.regs.sp ≤ end now.stack
      → Stopped r s v entry o now p cs
      → Ready v entry o now p cs
  ready second top (prologue h) = ready-prologue h
  ready second top (body h) = ready-body h
  ready second top (epilogue h) = ready-epilogue h top (second h.scope h.read h.listed h.fit)
