-- A frame that a record covers is at no leaf: what is left to undo is found in the prologue, in the body or in an epilogue.
-- Assumes nothing.
use Rattle.std.specs.Prelude.{if◌then◌else◌, Ok, Err, Option, None, Some}
use Prim.Native.Nat.{ℕ, ◌+◌, ◌-◌}
use mathlib.Core.Path.{◌≡◌, sym, ap, ◌∙◌}
use mathlib.Core.Logic.{◌≢◌}
use mathlib.Core.List.{List, [], ◌∷◌}
use mathlib.Core.Bool.{Bool, true, false, ◌&&◌}
use lib.ListN.{length}
use lib.Dec.{leb, ltb}
use native.Mathlib.Omega.{arith}
use Rattle.lent.specs.Lent.{Lent}
use Rattle.words.specs.declared.Place.{Place}
use Rattle.words.specs.declared.Place.TheVariants.{Leaf, Prologue, Epilogue}
use Rattle.words.specs.declared.Refusal.TheVariants.{InsideInstruction, Conditional, SpFell}
use Rattle.words.specs.Answer.{Res, ◌>>◌, need, maybe}
use Rattle.words.proofs.Answers.{bind_ok, need-ok}
use Rattle.unwinding.specs.CodeList.{end_of, run}
use Rattle.unwinding.specs.Shape.{Shape}
use Rattle.unwinding.specs.View.{EpilogueOf, View, view}
use Rattle.unwinding.specs.Todo.{Todo, left, in_epilogue, in_epilogues, todo}
use Rattle.codes.specs.declared.Code.{Code}
use Rattle.codes.specs.Code.{size, codes_at}
use Rattle.codes.specs.Condition.{executing}
use Rattle.machine.specs.declared.Regs.{Regs}
use Rattle.machine.specs.Step.{step}
use Rattle.frame.specs.Frame.{Caller, returned, within}

Inner : Res (Todo Code) → Type 0
Inner x = (t : Todo Code) → x ≡ Ok t → t.place ≢ Leaf

inner-left : (p : Place) (after n : ℕ) (cs : List Code) → p ≢ Leaf → Inner (left size p after n cs)
unfolding left Inner
inner-left p after n cs h = go (end_of size after n cs)
  where
    go : (l : Option (List Code)) → Inner (maybe l (Err InsideInstruction) (λ l. Ok (record { place = p; codes = l })))
    go None t e = absurd (let z : ◌≡◌ {A = ℕ} 0 1 = cc in omega arith)
    go (Some l) t e = let z : t.place ≡ p = cc in λ q. h (sym z ∙ q)

inner-if : (b : Bool) (x y : Res (Todo Code)) → Inner x → Inner y → Inner (if b then x else y)
inner-if true x y h k = h
inner-if false x y h k = k

inner-epilogue : (e : EpilogueOf Code) (o : ℕ) → Inner (in_epilogue size executing e o)
unfolding in_epilogue Inner
inner-epilogue e o t q =
    let l = left size Epilogue e.codes.end_size (e.start + e.size - o) e.codes.list in
    let u = bind_ok l (λ t. need (executing e.condition) Conditional >> Ok t) t q in
    let v = need-ok (executing e.condition) Conditional (Ok u.0) t u.2 in
    inner-left Epilogue e.codes.end_size (e.start + e.size - o) e.codes.list (λ q. let z : ◌≡◌ {A = ℕ} 0 1 = cc in omega arith) t (u.1 ∙ v.1)

inner-epilogues : (es : List (EpilogueOf Code)) (o : ℕ) (cs : List Code) → Inner (in_epilogues size executing es o cs)
unfolding in_epilogues Inner
inner-epilogues [] o cs = λ t q z. let y : ◌≡◌ {A = ℕ} 0 1 = cc in omega arith
inner-epilogues (e ∷ es) o cs = inner-if (leb e.start o && ltb o (e.start + e.size)) (in_epilogue size executing e o) (in_epilogues size executing es o cs) (inner-epilogue e o) (inner-epilogues es o cs)

inner-todo : (v : View Code) (o : ℕ) → Inner (todo size executing v o)
unfolding todo
inner-todo v o =
    inner-if (ltb o v.prologue) (left size Prologue 0 o v.codes.list) (in_epilogues size executing v.epilogues o v.codes.list)
    (inner-left Prologue 0 o v.codes.list (λ q. let z : ◌≡◌ {A = ℕ} 0 1 = cc in omega arith))
    (inner-epilogues v.epilogues o v.codes.list)

pub inner-within : (k : Lent) (s : Shape) (o : ℕ) (g : Regs) (c : Caller) → within k s o g ≡ Ok c → c.place ≢ Leaf
unfolding within Inner
inner-within k s o g c q =
    let u = bind_ok (view size codes_at s) _ c q in
    let v = bind_ok (todo size executing u.0 o) _ c u.2 in
    let w = bind_ok (run (step k) v.0.codes g) _ c v.2 in
    let d : Caller = record { regs = returned w.0; place = v.0.place; handler = s.handler; codes = length v.0.codes } in
    let x = need-ok (leb g.sp w.0.sp) SpFell (Ok d) c w.2 in
    let same : d ≡ c = cc x.1 in
    λ z. inner-todo u.0 o v.0 v.1 (ap (λ y. y.place) same ∙ z)
