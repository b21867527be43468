-- Demand 3 at an offset of a function, for a record's shape.
-- Assumes nothing.
use Rattle.std.specs.Prelude.{Ok}
use Prim.Native.Nat.{ℕ, ◌+◌, ◌-◌, ◌%◌, ◌^◌, ◌≤◌, ◌<◌}
use mathlib.Core.Path.{◌≡◌, refl, sym, ap, ◌∙◌}
use mathlib.Core.List.{List}
use mathlib.Core.Logic.{inl, inr}
use lib.ListN.{length, get_or}
use native.Mathlib.Omega.{arith}
use borrow.Author.Tests.{le-leb, le-ltb, lt-ltb}
use Rattle.words.specs.Bits.{even}
use Rattle.lent.specs.Lent.{Lent, end}
use Rattle.words.specs.declared.Place.{Place}
use Rattle.unwinding.specs.Shape.{Shape}
use Rattle.unwinding.specs.View.{View, view}
use Rattle.codes.specs.Code.{size, codes_at}
use Rattle.codes.specs.declared.Code.{Code}
use Rattle.machine.specs.Registers.{reg}
use Rattle.machine.specs.declared.Regs.{Regs}
use Rattle.frame.specs.Frame.{Caller, returned, within, unwound}
use Rattle.forward.specs.Registers.{value}
use Rattle.forward.specs.State.{Whole, State, Outside}
use Rattle.forward.specs.Demand.{Answer}
use Rattle.forward.proofs.Back.{Entry, inv-near, inv-entry, Near}
use Rattle.forward.proofs.Steps.{seen, st}
use Rattle.forward.proofs.Undoing.{ran}
use Rattle.forward.proofs.Ready.{Ready}

pub value-d : (g : Regs) (x : ℕ) → value g (16 + x) ≡ get_or g.d x 0
value-d g x = rw (le-ltb (16 + x) 16 (omega arith)) (ap (λ i. get_or g.d i 0) (let z : 16 + x - 16 ≡ x = omega arith in z))

value-r : (g : Regs) (x : ℕ) → x ≤ 11 → value g x ≡ reg g x
value-r g x h = rw (lt-ltb x 16 (omega arith)) refl

-- the caller that was found
abbrev caller_of : Regs → Place → (handler : ℕ) → List Code → Caller
caller_of h p rva cs = record { regs = returned h; place = p; handler = rva; codes = length cs }

answers : (entry : State) (p : Place) (rva : ℕ) (cs : List Code) (g h : Regs) → Whole h → Entry (st entry) (seen h) → Answer entry p rva cs (unwound g (Ok (caller_of h p rva cs)))
answers entry p rva cs g h w e = record {
  sp = e.sp;
  pc = ap even (e.r 14 (inr (inl refl)));
  lr = e.r 14 (inr (inl refl));
  whole = record { r = w.r; d = w.d };
  r = λ x a b. sym (value-r h x b) ∙ e.r x (inl (a, b)) ∙ value-r entry.regs x b;
  d = λ x a b. sym (value-d h x) ∙ e.r (16 + x) (inr (inr (omega arith, omega arith))) ∙ value-d entry.regs x;
  told = refl;
}

pub record FindsIn (s : Shape) (entry : State) (o : ℕ) (now : State) (p : Place) (cs : List Code) : Type 0 where
  pub caller : Caller
  pub given : (k : Lent) → Outside entry.regs.sp (end now.stack) now.stack k → within k s o now.regs ≡ Ok caller
  pub answer : Answer entry p s.handler cs (unwound now.regs (Ok caller))
  pub near : Near now.stack.base entry.regs.sp now.regs.sp

pub finds-in :
    (s : Shape) (v : View Code) (entry : State) (o : ℕ) (now : State) (p : Place) (cs : List Code) → view size codes_at s ≡ Ok v
    → entry.regs.sp % 4 ≡ 0
    → entry.regs.sp ≤ end now.stack
    → end now.stack < 2 ^ 32
    → Ready v entry o now p cs
    → FindsIn s entry o now p cs
unfolding within
finds-in s v entry o now p cs w al top m y =
    let u = ran now.stack (st entry) al top cs now.regs m y.sound now.whole y.inv in
    let e = inv-entry u.inv in
    let n = inv-near now.stack.base (st entry) al y.inv in
    let up : now.regs.sp ≤ u.next.sp = omega (arith, n.high, e.sp) in
    record {
      caller = caller_of u.next p s.handler cs;
      given = λ k a. rw (w, y.todo, u.runs k a, le-leb _ _ up) refl;
      answer = answers entry p s.handler cs now.regs u.next u.whole e;
      near = n;
    }
