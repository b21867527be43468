-- Code behind the function is not looked at: with more of it the answer is the same, unless there was too little.
-- Assumes nothing.
use Rattle.std.specs.Prelude.{if◌then◌else◌, Err}
use Prim.Native.Nat.{ℕ, ◌+◌, ◌*◌, ◌^◌, ◌≤◌, ◌<◌}
use mathlib.Core.Path.{◌≡◌, refl, sym, ap, ap₂, ◌∙◌}
use mathlib.Core.List.{List, [], ◌∷◌, ◌++◌}
use mathlib.Core.Bool.{Bool, true, false}
use lib.ListN.{length, length-append, get_or-append}
use lib.Dec.{leb, ltb, eqb}
use native.Mathlib.Omega.{arith}
use borrow.Author.Tests.{leb-true, leb-false, le-leb, ne_eqb}
use Rattle.words.specs.Units.{halfword_bytes}
use Rattle.lent.specs.Lent.{Lent}
use Rattle.lent.specs.Little.{word16}
use Rattle.unwinding.specs.CodeList.{total}
use Rattle.unwinding.specs.View.{EpilogueOf, View}
use Rattle.thumb.specs.Instruction.{of16, of32, no_instruction, instruction_at}
use Rattle.thumb.specs.declared.Instruction.{Instruction}
use Rattle.expected.specs.Expected.{meets}
use Rattle.comparing.specs.Items.{Coded, size_of, Role, opens, closes, leaves, Item, expects, Compared, differs, compared, is_last, item, prologue_items, epilogue_items}
use Rattle.expected.specs.declared.Expected.{Expected}
use Rattle.fitting.specs.Fitting.{epilogues_items, items, Fitted, answered, fitted}
use Rattle.fitting.specs.Exactly.{InLine}
use Rattle.fitting.specs.declared.FitRefusal.TheVariants.{Short}
use Rattle.fitting.proofs.Lines.{line-le, items-line}
use Rattle.fitting.proofs.Exact.{Way, unread, short, long, way, fit-long, to-unread}

-- a halfword that is there stays
half-behind : (s t : List ℕ) (o : ℕ) → o + 2 ≤ length s → word16 (s ++ t) o ≡ word16 s o
half-behind s t o h = ap₂ (λ a b. a + 2 ^ 8 * b) (get_or-append s t 0 o (omega arith)) (get_or-append s t 0 (o + 1) (omega arith))

-- an instruction of another size is not the expected one
other-size : (e : Expected) (i : Instruction) → (e.size.0 ≡ i.size.0 → ⊥) → meets e i ≡ false
other-size e i h = rw (ne_eqb e.size.0 i.size.0 h) refl

-- an instruction whose bytes are there stays; one that is cut short has not the size that fits in there
meets-behind :
    (s t : List ℕ) (o : ℕ) (e : Expected) → 0 < halfword_bytes e.size → o + halfword_bytes e.size ≤ length s
    → meets e (instruction_at (s ++ t) o) ≡ meets e (instruction_at s o)
unfolding instruction_at
meets-behind s t o e p h =
    let n = length-append s t in
    let a : o + 2 ≤ length s = omega arith in
    let b : o + 2 ≤ length (s ++ t) = omega (arith, n) in
    rw (half-behind s t o a, le-leb (o + 2) (length s) a, le-leb (o + 2) (length (s ++ t)) b) (narrow (ltb (word16 s o) 0xE800))
  where
    short : leb (o + 4) (length s) ≡ false → (c : Bool) (w : ℕ) → meets e (if c then of32 w else no_instruction) ≡ false
    short q true w = other-size e (of32 w) (λ z. omega (arith, z, leb-false (o + 4) (length s) q))
    short q false w = other-size e no_instruction (λ z. omega (arith, z))

    wide :
        (c : Bool) → leb (o + 4) (length s) ≡ c
        → meets e (if leb (o + 4) (length (s ++ t)) then of32 (2 ^ 16 * word16 s o + word16 (s ++ t) (o + 2)) else no_instruction)
        ≡ meets e (if c then of32 (2 ^ 16 * word16 s o + word16 s (o + 2)) else no_instruction)
    wide true q =
        let l : o + 4 ≤ length s = leb-true _ _ q in
        let m : o + 4 ≤ length (s ++ t) = omega (arith, l, length-append s t) in
        rw (half-behind s t (o + 2) (omega (arith, l)), le-leb (o + 4) (length (s ++ t)) m) refl
    wide false q = short q (leb (o + 4) (length (s ++ t))) (2 ^ 16 * word16 s o + word16 (s ++ t) (o + 2)) ∙ sym (short q false 0)

    narrow :
        (b : Bool)
        → meets e (if b then of16 (word16 s o) else if leb (o + 4) (length (s ++ t)) then of32 (2 ^ 16 * word16 s o + word16 (s ++ t) (o + 2)) else no_instruction)
        ≡ meets e (if b then of16 (word16 s o) else if leb (o + 4) (length s) then of32 (2 ^ 16 * word16 s o + word16 s (o + 2)) else no_instruction)
    narrow true = refl
    narrow false = wide (leb (o + 4) (length s)) refl

-- the same offsets and roles over two functions' bytes
data Pairs (s t : List ℕ) : List Item → List Item → Type 0 where
  none : Pairs s t [] []
  pair : {is js : List Item} (o : ℕ) (r : Role) → Pairs s t is js → Pairs s t (item s o r ∷ is) (item t o r ∷ js)

module _ (s t : List ℕ) where
  pairs-append : {is js is' js' : List Item} → Pairs s t is js → Pairs s t is' js' → Pairs s t (is ++ is') (js ++ js')
  pairs-append none q = q
  pairs-append (pair o r p) q = pair o r (pairs-append p q)

  prologue-pairs : (cs : List Coded) → Pairs s t (prologue_items s cs) (prologue_items t cs)
  unfolding prologue_items
  prologue-pairs [] = none
  prologue-pairs (c ∷ cs) = pairs-append (prologue-pairs cs) (pair (total size_of cs) (opens c) none)

  epilogue-pairs : (o : ℕ) (cs : List Coded) (e : ℕ) → Pairs s t (epilogue_items s o cs e) (epilogue_items t o cs e)
  unfolding epilogue_items
  epilogue-pairs o [] e = go (eqb e 0)
    where
      go : (b : Bool) → Pairs s t (if b then [] else item s o (leaves e) ∷ []) (if b then [] else item t o (leaves e) ∷ [])
      go true = none
      go false = pair o (leaves e) none
  epilogue-pairs o (c ∷ cs) e = pair o (closes (is_last cs e) c) (epilogue-pairs (o + size_of c) cs e)

  epilogues-pairs : (es : List (EpilogueOf Coded)) → Pairs s t (epilogues_items s es) (epilogues_items t es)
  unfolding epilogues_items
  epilogues-pairs [] = none
  epilogues-pairs (e ∷ es) = pairs-append (epilogue-pairs e.start e.codes.list e.codes.end_size) (epilogues-pairs es)

  items-pairs : (f : Bool) (v : View Coded) → Pairs s t (items s f v) (items t f v)
  items-pairs true v = epilogues-pairs v.epilogues
  items-pairs false v = pairs-append (prologue-pairs v.codes.list) (epilogues-pairs v.epilogues)

-- instructions that all stand in the first bytes are compared alike with more bytes behind them
pairs-compared : (s t : List ℕ) {is js : List Item} (a b : ℕ) → Pairs s (s ++ t) is js → InLine a is b → b ≤ length s → compared js ≡ compared is
unfolding compared
pairs-compared s t a b none l h = refl
pairs-compared s t a b (pair {is} {js} o r p) l h =
    let e : Expected = expects r in
    let n : o + halfword_bytes e.size ≤ length s = omega (arith, line-le _ b is l.2, h) in
    ap₂ (λ (x : Bool) (y : Compared). if x then y else differs o) (meets-behind s t o e l.1 n) (pairs-compared s t _ b p l.2 h)

pub fit-behind : (x : Lent) (w : ℕ) (s t : List ℕ) → (fitted x w s ≡ Err Short → ⊥) → fitted x w (s ++ t) ≡ fitted x w s
fit-behind x w s t n = go (fitted x w s) (way x w s) refl
  where
    go : (f : Fitted) → Way x w s f → f ≡ fitted x w s → fitted x w (s ++ t) ≡ fitted x w s
    go f (unread r u) h = to-unread x w (s ++ t) r u ∙ h
    go f (short q) h = absurd (n (sym h))
    go f (long q l) h =
        sym (fit-long x w (s ++ t) q (omega (arith, l, length-append s t)))
        ∙ ap answered (pairs-compared s t 0 q.shape.span (items-pairs s (s ++ t) q.shape.fragment q.view) (items-line s q.shape q.view q.passes6-7) l)
        ∙ h
