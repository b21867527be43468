-- Of a record that fits, each instruction is the one of its code: of each part of its prologue and of each epilogue. Its view without first bytes.
-- Assumes nothing.
use Rattle.std.specs.Prelude.{if◌then◌else◌, Ok}
use Prim.Native.Nat.{ℕ, ◌+◌, ◌<◌}
use mathlib.Core.Path.{◌≡◌, refl, sym, ap, ap₂, subst, ◌∙◌}
use mathlib.Core.Bool.{Bool, true, false}
use mathlib.Core.List.{List, [], ◌∷◌, ◌++◌, map}
use native.Mathlib.Omega.{arith}
use borrow.Author.Tests.{ne_eqb}
use Rattle.words.specs.Units.{code_bytes}
use Rattle.words.specs.declared.Refusal.TheVariants.{BadLayout}
use Rattle.words.proofs.Answers.{bind_ok, need-ok, ok_same}
use Rattle.lent.specs.Lent.{Lent}
use Rattle.unwinding.specs.CodeList.{total}
use Rattle.unwinding.specs.Listed.{Of, here, later, InNone}
use Rattle.unwinding.specs.Shape.{Shape}
use Rattle.unwinding.specs.View.{EpilogueOf, View, fits, epilogues, view}
use Rattle.unwinding.specs.declared.Scope.{Scope}
use Rattle.unwinding.proofs.Mapping.{mapped, epilogue_of, view_of}
use Rattle.codes.specs.Code.{size, codes_at}
use Rattle.xdata.specs.Xdata.{fit_xdata}
use Rattle.record.specs.Record.{shape_at}
use Rattle.comparing.specs.Items.{Coded, size_of, coded_at, Item, opens, item, is_last, prologue_items, epilogue_items}
use Rattle.comparing.proofs.Scanning.{view-coded}
use Rattle.fitting.specs.Exactly.{Stands, AllStand}
use Rattle.fitting.specs.Fitting.{epilogues_items, items, fitted}
use Rattle.fitting.proofs.Exact.{exactly}
use Rattle.executing.specs.Executed.{code_of}

pub stand-front : (a b : List Item) → AllStand (a ++ b) → AllStand a
stand-front [] b h = tt
stand-front (i ∷ a) b h = (h.0, stand-front a b h.1)

pub stand-end : (a b : List Item) → AllStand (a ++ b) → AllStand b
stand-end [] b h = h
stand-end (i ∷ a) b h = stand-end a b h.1

pub record Fitting (x : Lent) (s : List ℕ) (sh : Shape) (v : View Coded) : Type 0 where
  pub passes1 : fit_xdata x ≡ true
  pub stand : AllStand (items s sh.fragment v)

-- there is but one shape and one view
pub fitting :
    (x : Lent) (w : ℕ) (s : List ℕ) (sh : Shape) (v : View Coded) → fitted x w s ≡ Ok tt → shape_at x w ≡ Ok sh → view size_of coded_at sh ≡ Ok v
    → Fitting x s sh v
fitting x w s sh v h e f =
    let p = (exactly x w s).passes.0 h in
    let c = p.compares in
    let y : c.reads.shape ≡ sh = ok_same _ _ (sym c.reads.passes4-5 ∙ e) in
    let z : c.reads.view ≡ v = ok_same _ _ (sym c.reads.passes6-7 ∙ ap (view size_of coded_at) y ∙ f) in
    let l : p.list ≡ items s sh.fragment v = sym c.all ∙ ap₂ (λ (q : Shape) u. items s q.fragment u) y z in
    record { passes1 = c.reads.passes1; stand = subst AllStand l p.stand }

module _ (s : List ℕ) where
  -- a prologue's instructions, unless there is none
  pub of-prologue : (fragment : Bool) (v : View Coded) → fragment ≡ false → AllStand (items s fragment v) → AllStand (prologue_items s v.codes.list)
  of-prologue true v e h = absurd (let z : ◌≡◌ {A = ℕ} 0 1 = cc in omega arith)
  of-prologue false v e h = stand-front (prologue_items s v.codes.list) (epilogues_items s v.epilogues) h

  -- those of the codes at the end of its list stand first
  pub of_part : (ahead undone : List Coded) → AllStand (prologue_items s (ahead ++ undone)) → AllStand (prologue_items s undone)
  unfolding prologue_items
  of_part [] undone h = h
  of_part (c ∷ ahead) undone h =
      of_part ahead undone (stand-front (prologue_items s (ahead ++ undone)) (item s (total size_of (ahead ++ undone)) (opens c) ∷ []) h)

  pub of-first : (c : Coded) (cs : List Coded) → AllStand (prologue_items s (c ∷ cs)) → AllStand (prologue_items s cs) × Stands (item s (total size_of cs) (opens c))
  unfolding prologue_items
  of-first c cs h =
      (stand-front (prologue_items s cs) (item s (total size_of cs) (opens c) ∷ []) h, (stand-end (prologue_items s cs) (item s (total size_of cs) (opens c) ∷ []) h).0)

  -- an epilogue's
  pub of-epilogues : (fragment : Bool) (v : View Coded) → AllStand (items s fragment v) → AllStand (epilogues_items s v.epilogues)
  of-epilogues fragment v h = stand-end (if fragment then [] else prologue_items s v.codes.list) (epilogues_items s v.epilogues) h

  pub of-epilogue :
      {sc : Scope} {ex : EpilogueOf Coded} {scs : List Scope} {exs : List (EpilogueOf Coded)} → Of sc ex scs exs → AllStand (epilogues_items s exs)
      → AllStand (epilogue_items s ex.start ex.codes.list ex.codes.end_size)
  unfolding epilogues_items
  of-epilogue {ex = ex} (here {exs = exs}) h = stand-front (epilogue_items s ex.start ex.codes.list ex.codes.end_size) (epilogues_items s exs) h
  of-epilogue (later {b = b} {exs = exs} m) h = of-epilogue m (stand-end (epilogue_items s b.start b.codes.list b.codes.end_size) (epilogues_items s exs) h)

-- a code with bytes behind it is not the last before FF
pub not_last : (l : List Coded) (n e : ℕ) → n < total size_of l + e → is_last l e ≡ false
unfolding total
not_last [] n e h = ne_eqb e 0 (λ (q : e ≡ 0). omega arith)
not_last (c ∷ l) n e h = refl

-- ---- without first bytes
pub view-plain : (sh : Shape) (v : View Coded) → view size_of coded_at sh ≡ Ok v → view size codes_at sh ≡ Ok (view_of code_of v)
view-plain sh v e = sym (view-coded sh) ∙ ap (mapped (view_of code_of)) e

pub of_plain :
    {sc : Scope} {ex : EpilogueOf Coded} {scs : List Scope} {exs : List (EpilogueOf Coded)} → Of sc ex scs exs
    → Of sc (epilogue_of code_of ex) scs (map (epilogue_of code_of) exs)
of_plain here = here
of_plain (later m) = later (of_plain m)

pub none-plain : (o : ℕ) (exs : List (EpilogueOf Coded)) → InNone o exs → InNone o (map (epilogue_of code_of) exs)
none-plain o [] h = tt
none-plain o (ex ∷ exs) h = (h.0, none-plain o exs h.1)

-- a fragment has no prologue
pub no-prologue : (sh : Shape) (v : View Coded) (o : ℕ) → view size_of coded_at sh ≡ Ok v → o < v.prologue → sh.fragment ≡ false
unfolding view
no-prologue sh v o h l =
    let a = bind_ok (coded_at sh.codes (code_bytes 0)) _ v h in
    let b = bind_ok (epilogues size_of coded_at sh sh.scopes) _ v a.2 in
    let p : ℕ = if sh.fragment then 0 else total size_of a.0.list in
    let c = need-ok (fits sh.span p b.0) BadLayout (Ok (record { codes = a.0; prologue = p; epilogues = b.0 })) v b.2 in
    let e : p ≡ v.prologue = ap (λ (y : View Coded). y.prologue) (ok_same _ _ c.1) in
    go sh.fragment (total size_of a.0.list) (omega (arith, e))
  where
    go : (t : Bool) (n : ℕ) → o < (if t then 0 else n) → t ≡ false
    go true n l = absurd (let z : o < 0 = l in omega arith)
    go false n l = refl
