-- Order 4: what the nop of a frame chain moved in packed records, and in one frame's answer.
-- Assumes nothing.
use Rattle.std.specs.Prelude.{if◌then◌else◌, Ok, Err}
use Prim.Native.Nat.{ℕ, ◌+◌, ◌-◌, ◌^◌}
use mathlib.Core.Path.{◌≡◌, refl, sym, ap, ap₂, ◌∙◌}
use mathlib.Core.Logic.{◌⊎◌, inl, inr}
use mathlib.Core.List.{List, ◌∷◌, ◌++◌, []}
use mathlib.Core.Bool.{Bool, true, false, ◌&&◌, not}
use lib.Dec.{leb, eqb}
use lib.ListN.{length}
use native.Mathlib.Omega.{arith}
use borrow.Author.Tests.{eqb-true, eqb-false}
use Rattle.words.specs.Units.{stack_words, code_bytes}
use Rattle.words.specs.declared.Refusal.{Refusal}
use Rattle.words.specs.declared.Refusal.TheVariants.{Reserved, BadLayout, SpFell}
use Rattle.words.specs.Answer.{Res, need, ◌>>=◌, ◌>>◌}
use Rattle.words.proofs.Answers.{bind_ok, need-ok, ok_same}
use Rattle.words.proofs.Tests.{both}
use Rattle.lent.specs.Lent.{Lent}
use Rattle.unwinding.specs.CodeList.{Codes, total, run}
use Rattle.unwinding.specs.Shape.{Shape}
use Rattle.unwinding.specs.View.{EpilogueOf, View, fits, epilogues, view}
use Rattle.unwinding.specs.Todo.{Todo, todo}
use Rattle.unwinding.proofs.Viewed.{Viewed, viewed}
use Rattle.unwinding.proofs.Resized.{Smaller, Placed, Blind, run-resized, length-resized, view-resized, todo-freed, todo-past, todo-behind, todo-until}
use Rattle.codes.specs.Table.{bits16, bits32}
use Rattle.codes.specs.Code.{size, codes_at}
use Rattle.codes.specs.Condition.{always, executing}
use Rattle.codes.specs.declared.Code.{Code}
use Rattle.codes.specs.declared.Undo.TheVariants.{Up}
use Rattle.machine.specs.declared.Regs.{Regs}
use Rattle.machine.specs.Step.{step}
use Rattle.packed.specs.Packed.{Fit, fields, allowed, integers, PF, packed_span, packed_fragment}
use Rattle.packed.specs.declared.Packed.{Packed}
use Rattle.packed.proofs.Words.{fields_fit_lem}
use Rattle.packed_codes.specs.PackedCodes.{low, pushed, chain_alone, written, write_codes}
use Rattle.packed_codes.specs.Lists.{pops, homes, prologue_codes, epilogue_codes}
use Rattle.packed_codes.specs.Chain.{written_before, codes_before, nop}
use Rattle.packed_codes.specs.declared.CodesOf.{CodesOf}
use Rattle.packed_codes.proofs.Decoding.{holds, before-first, before-second}
use Rattle.packed_codes.proofs.Chain.{which, codes_front, codes_behind, code-before, code-after, chained}
use Rattle.record.specs.Record.{last_scope, packed_shape}
use Rattle.frame.specs.Frame.{Caller, returned, within}
use Rattle.demands.specs.Chain.{shape_before, now, before, pushes, Moved, Order4}

-- ---- the records
abbrev shape_with : Packed → CodesOf → Shape
shape_with p c =
    record { span = packed_span p; codes = c.bytes; fragment = packed_fragment p; scopes = if eqb p.ret 3 then [] else last_scope c.first ∷ []; handler = 0 }

shape-now : (w : ℕ) → packed_shape w ≡ (need (allowed (fields w)) Reserved >> Ok (shape_with (fields w) (written (fields w))))
unfolding packed_shape write_codes
shape-now w = go (allowed (fields w))
  where
    go : (t : Bool) → ((need t Reserved >> Ok (written (fields w))) >>= λ c. Ok (shape_with (fields w) c)) ≡ (need t Reserved >> Ok (shape_with (fields w) (written (fields w))))
    go true = refl
    go false = refl

shape-before : (w : ℕ) → shape_before w ≡ (need (allowed (fields w)) Reserved >> Ok (shape_with (fields w) (written_before (fields w))))
unfolding shape_before
shape-before w = refl

others : (w : ℕ) → chain_alone (pushed (fields w)) ≡ false → packed_shape w ≡ shape_before w
others w h =
    shape-now w ∙ ap (λ c. need (allowed (fields w)) Reserved >> Ok (shape_with (fields w) c)) ((chained (fields w) (fields_fit_lem w)).kept h).0
    ∙ sym (shape-before w)

-- the one epilogue, unless Ret=3, by its codes
epilogue-by :
    (p : Packed) (c d : CodesOf) (e : Codes Code) (t : Bool) → (t ≡ false → codes_at c.bytes c.first ≡ Ok e) → (t ≡ false → codes_at d.bytes d.first ≡ Ok e)
    → epilogues size codes_at (shape_with p c) (if t then [] else last_scope c.first ∷ []) ≡ epilogues size codes_at (shape_with p d) (if t then [] else last_scope d.first ∷ [])
unfolding epilogues
epilogue-by p c d e true q r = refl
epilogue-by p c d e false q r = rw (q refl, r refl) refl

-- ---- one frame
-- what is made of what is left to undo, of a record without handler
abbrev undone : Lent → Regs → Todo Code → Res Caller
undone k g t =
    run (step k) t.codes g >>= λ h. need (leb g.sp h.sp) SpFell >> Ok (record { regs = returned h; place = t.place; handler = 0; codes = length t.codes })

within_by :
    (k : Lent) (p : Packed) (c : CodesOf) (u : View Code) (o : ℕ) (g : Regs) → view size codes_at (shape_with p c) ≡ Ok u
    → within k (shape_with p c) o g ≡ (todo size executing u o >>= undone k g)
unfolding within
within_by k p c u o g e = rw e refl

-- a nop does the same whatever its size
nop-same : (k : Lent) (g : Regs) → step k (nop bits16) g ≡ step k (nop bits32) g
unfolding step
nop-same k g = refl

-- the nop, before the pushes
abbrev smaller : Packed → Smaller size 2
smaller p = record { old = nop bits32; new = nop bits16; back = codes_behind p; larger = refl; sized = omega arith }

blind : (p : Packed) (k : Lent) (g : Regs) → Blind (smaller p) (undone k g)
blind p k g at c =
    ap₂
    (λ (x : Res Regs) (n : ℕ). x >>= λ h. need (leb g.sp h.sp) SpFell >> Ok (record { regs = returned h; place = at; handler = 0; codes = n }))
    (run-resized (smaller p) (step k) (nop-same k) c g)
    (length-resized (smaller p) c)

-- ---- the pushes
homes-size : (p : Packed) → total size (homes p) ≡ (if eqb p.h 1 then 2 else 0)
unfolding total
homes-size p = go (eqb p.h 1)
  where
    go : (t : Bool) → total size (if t then record { undo = Up (stack_words 4); size = bits16 } ∷ [] else []) ≡ (if t then 2 else 0)
    go true = refl
    go false = refl

-- the push of r11 and LR has 32 bits
behind-size : (p : Packed) → Fit p → chain_alone (pushed p) ≡ true → total size (codes_behind p) ≡ pushes p
unfolding total
behind-size p f h =
    let a = both (eqb p.r 1 && eqb p.c 1 && eqb p.l 1) (not (PF p)) (sym (which p f) ∙ h) in
    let l : p.l ≡ 1 = eqb-true p.l 1 (both (eqb p.r 1 && eqb p.c 1) (eqb p.l 1) a.0).1 in
    let i : integers p (PF p) ≡ 2 ^ 11 = omega (arith, l, eqb-true (pushed p) (2 ^ 11 + 2 ^ 14) h) in
    let s : total size (codes_behind p) ≡ 4 + total size (homes p) = ap₂ (λ (x y : ℕ). total size (pops (low x) x y ++ homes p)) i l in
    omega (arith, s, homes-size p)

-- ---- a word that pushes r11 and LR alone
module _ (w : ℕ) (v : View Code) (h : chain_alone (pushed (fields w)) ≡ true) (a : allowed (fields w) ≡ true) (passed : view size codes_at (shape_with (fields w) (written_before (fields w))) ≡ Ok v) where
  abbrev p : Packed
  p = fields w

  fit : Fit p
  fit = fields_fit_lem w

  seen : Viewed size codes_at (shape_with p (written_before p)) v
  seen = viewed size codes_at (shape_with p (written_before p)) v passed

  list-was : v.codes.list ≡ codes_front p ++ (nop bits32 ∷ codes_behind p)
  list-was = ap (λ (c : Codes Code). c.list) (ok_same v.codes (codes_before p) (sym seen.codes ∙ (before-first p fit).read)) ∙ code-before p fit h

  abbrev placed : Placed (smaller p) v (prologue_codes p)
  placed = record { front = codes_front p; was = list-was; is = code-after p fit h; fragment = packed_fragment p; prologue = seen.prologue }

  abbrev u : View Code
  u = record { codes = prologue_codes p; prologue = v.prologue - 2; epilogues = v.epilogues }

  same-epilogues : epilogues size codes_at (shape_with p (written p)) (shape_with p (written p)).scopes ≡ Ok v.epilogues
  same-epilogues =
      epilogue-by p (written p) (written_before p) (epilogue_codes p) (eqb p.ret 3) (λ t. ((holds p fit).second (eqb-false p.ret 3 t)).read)
      (λ t. (before-second p fit (eqb-false p.ret 3 t)).read)
      ∙ seen.epilogues

  view-now : view size codes_at (shape_with p (written p)) ≡ Ok u
  view-now = view-resized (smaller p) placed codes_at (shape_with p (written p)) (holds p fit).first.read same-epilogues refl seen.fit

  is-now : packed_shape w ≡ Ok (shape_with p (written p))
  is-now = shape-now w ∙ ap (λ t. need t Reserved >> Ok (shape_with p (written p))) a

  is-before : shape_before w ≡ Ok (shape_with p (written_before p))
  is-before = shape-before w ∙ ap (λ t. need t Reserved >> Ok (shape_with p (written_before p))) a

  now-is : (k : Lent) (o : ℕ) (g : Regs) → now k w o g ≡ (todo size executing u o >>= undone k g)
  now-is k o g = ap (λ x. x >>= λ s. within k s o g) is-now ∙ within_by k p (written p) u o g view-now

  before-is : (k : Lent) (o : ℕ) (g : Regs) → before k w o g ≡ (todo size executing v o >>= undone k g)
  before-is k o g = ap (λ x. x >>= λ s. within k s o g) is-before ∙ within_by k p (written_before p) v o g passed

  passes : (packed_shape w >>= view size codes_at) ≡ Ok u
  passes = ap (λ x. x >>= view size codes_at) is-now ∙ view-now

  -- a frame now is one before, where what is left to undo comes to the same
  same-frame :
      (k : Lent) (o n : ℕ) (g : Regs) → (todo size executing u o >>= undone k g) ≡ (todo size executing v n >>= undone k g) → now k w o g ≡ before k w n g
  same-frame k o n g e = now-is k o g ∙ e ∙ sym (before-is k n g)

  moved_by : Moved w v
  moved_by = record {
    passes = passes;
    until = λ k o g l. same-frame k o o g (todo-until (smaller p) placed executing (undone k g) (blind p k g) o (omega (arith, l, behind-size p fit h)));
    past = λ k o g l. same-frame k o o g (todo-past (smaller p) placed executing (undone k g) (blind p k g) o l);
    behind = λ k o g l m. same-frame k o (o + 2) g (todo-behind (smaller p) placed executing (undone k g) (blind p k g) o (omega (arith, l, behind-size p fit h)) m);
    freed = λ o l m. ap (λ x. x >>= λ u. todo size executing u o) passes ∙ todo-freed (smaller p) placed executing (packed_span p) o seen.fit l m;
  }

moved : (w : ℕ) (v : View Code) → chain_alone (pushed (fields w)) ≡ true → (shape_before w >>= view size codes_at) ≡ Ok v → Moved w v
moved w v h e =
    let b = bind_ok (shape_before w) (view size codes_at) v e in
    let c = need-ok (allowed (fields w)) Reserved (Ok (shape_with (fields w) (written_before (fields w)))) b.0 (sym (shape-before w) ∙ b.1) in
    moved_by w v h c.0 (ap (view size codes_at) (ok_same _ _ c.1) ∙ b.2)

-- ---- a word that was refused
-- where both lists are read, by 7
layout-only :
    (s : Shape) (c : Codes Code) (es : List (EpilogueOf Code)) (r : Refusal) → codes_at s.codes (code_bytes 0) ≡ Ok c → epilogues size codes_at s s.scopes ≡ Ok es
    → view size codes_at s ≡ Err r
    → r ≡ BadLayout
unfolding view
layout-only s c es r a b h =
    let n : ℕ = if s.fragment then 0 else total size c.list in
    go (fits s.span n es) (record { codes = c; prologue = n; epilogues = es }) (rw (a, b) at h)
  where
    go : (t : Bool) (v : View Code) → (need t BadLayout >> Ok v) ≡ Err r → r ≡ BadLayout
    go true v q = absurd (let z : ◌≡◌ {A = ℕ} 0 1 = cc in omega arith)
    go false v q = cc

epilogue-some :
    (p : Packed) (c : CodesOf) (e : Codes Code) (t : Bool) → (t ≡ false → codes_at c.bytes c.first ≡ Ok e)
    → (es : List (EpilogueOf Code)) × (epilogues size codes_at (shape_with p c) (if t then [] else last_scope c.first ∷ []) ≡ Ok es)
unfolding epilogues
epilogue-some p c e true q = ([], refl)
epilogue-some p c e false q =
    let n : ℕ = total size e.list + e.end_size in
    (record { start = packed_span p - n; size = n; condition = always; codes = e } ∷ [], rw (q refl) refl)

refused :
    (w : ℕ) (r : Refusal) → chain_alone (pushed (fields w)) ≡ true → (shape_before w >>= view size codes_at) ≡ Err r
    → (r ≡ BadLayout) ⊎ ((packed_shape w >>= view size codes_at) ≡ Err r)
refused w r h e = go (allowed (fields w)) (ap (λ x. x >>= view size codes_at) (sym (shape-before w)) ∙ e) (shape-now w)
  where
    go :
        (t : Bool) → ((need t Reserved >> Ok (shape_with (fields w) (written_before (fields w)))) >>= view size codes_at) ≡ Err r
        → packed_shape w ≡ (need t Reserved >> Ok (shape_with (fields w) (written (fields w))))
        → (r ≡ BadLayout) ⊎ ((packed_shape w >>= view size codes_at) ≡ Err r)
    go true q n =
        let es = epilogue-some (fields w) (written_before (fields w)) (epilogue_codes (fields w)) (eqb (fields w).ret 3) (λ t. (before-second (fields w) (fields_fit_lem w) (eqb-false (fields w).ret 3 t)).read) in
        inl (layout-only (shape_with (fields w) (written_before (fields w))) (codes_before (fields w)) es.0 r (before-first (fields w) (fields_fit_lem w)).read es.1 q)
    go false q n = inr (ap (λ x. x >>= view size codes_at) n ∙ q)

pub order4 : Order4
order4 = record {
  lists = chained;
  others = others;
  refused = refused;
  moved = moved;
}
