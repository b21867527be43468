-- Order 4: which words push r11 and LR and nothing else, and what is another byte and another size in them.
-- Assumes nothing.
use Rattle.std.specs.Prelude.{if◌then◌else◌}
use Prim.Native.Nat.{ℕ, zero, suc, ◌+◌, ◌-◌, ◌*◌, ◌%◌, ◌^◌, ◌≤◌, ◌<◌}
use mathlib.Core.Path.{◌≡◌, refl, sym, ap, ◌∙◌}
use mathlib.Core.List.{List, [], ◌∷◌, ◌++◌, append_assoc}
use mathlib.Core.Bool.{Bool, true, false, ◌&&◌, not}
use lib.ListN.{length, take, replicate, length-append}
use lib.Dec.{eqb}
use lib.Pow.{pow_mono, pow-add}
use native.Mathlib.Omega.{arith}
use borrow.Author.Tests.{eqb-true, eqb-false, eq-eqb, ne_eqb}
use Rattle.words.specs.Units.{code_bytes, stack_words}
use Rattle.words.specs.declared.Halfwords.{Halfwords}
use Rattle.words.proofs.Tests.{both}
use Rattle.unwinding.specs.CodeList.{total}
use Rattle.unwinding.proofs.Ends.{total-append}
use Rattle.codes.specs.Table.{range, lr_if, bits16, bits32}
use Rattle.codes.specs.Code.{size}
use Rattle.codes.specs.declared.Code.{Code}
use Rattle.codes.specs.declared.Undo.{Undo}
use Rattle.codes.specs.declared.Undo.TheVariants.{LoadLr, Nothing}
use Rattle.codes.proofs.Registers.{range-r4}
use Rattle.packed.specs.Packed.{Fit, amount, PF, EF, integers}
use Rattle.packed.specs.declared.Packed.{Packed}
use Rattle.packed.proofs.IntegerLists.{range-r3}
use Rattle.packed_codes.specs.PackedCodes.{when, up_code, vpop_code, pop_code, low, pushed, chain_alone, first_list, second_list, written}
use Rattle.packed_codes.specs.Lists.{only, size_if, ups, vpops, pops, homes, prologue_codes, leaving, epilogue_codes}
use Rattle.packed_codes.specs.Chain.{first_before, written_before, codes_before, chain_fields, nop, ButFor, Chained}
use Rattle.packed_codes.proofs.Lengths.{first_with, lists-fit}
use Rattle.packed_codes.proofs.Decoding.{codes_with, reversed, prologue-is}

-- ---- which words
-- r4 to rN alone, or with rS to r3, is not r11
no-r11 : (reg homed : ℕ) → homed < 16 → range 4 (4 + reg) + homed ≡ 2 ^ 11 → ⊥
no-r11 reg h l e = let q : 2 ^ (4 + reg + 1) ≡ 2 ^ 5 * 2 ^ reg = ap (λ n. 2 ^ n) (let z : 4 + reg + 1 ≡ 5 + reg = omega arith in z) ∙ pow-add 2 5 reg in omega (arith, q)

saves : (reg : ℕ) → 16 ≤ range 4 (4 + reg)
saves reg = let m : 2 ^ 5 ≤ 2 ^ (4 + reg + 1) = pow_mono {i = 5} {j = 4 + reg + 1} (omega arith) in omega arith

homes-some : (k : ℕ) → 0 < range (3 - k) 3
homes-some k = let m : 2 ^ (3 - k) ≤ 2 ^ 3 = pow_mono {i = 3 - k} {j = 3} (omega arith) in omega arith

and-not : (b : Bool) → (b && not true) ≡ false
and-not true = refl
and-not false = refl

module _ (p : Packed) (w : Fit p) where
  abbrev homed : Bool → ℕ
  homed t = if t then range (3 - p.adjust % 4) 3 else 0

  homed-small : (t : Bool) → homed t < 16
  homed-small true = range-r3 (p.adjust % 4)
  homed-small false = omega arith

  by-r : (s : Bool) → eqb p.r 0 ≡ s → (t : Bool) → eqb ((if s then range 4 (4 + p.reg) else 0) + homed t + p.c * 2 ^ 11 + lr_if p.l) (2 ^ 11 + 2 ^ 14) ≡ (eqb p.r 1 && eqb p.c 1 && eqb p.l 1 && not t)
  by-r true e t =
      let r : p.r ≡ 0 = eqb-true p.r 0 e in
      let no : range 4 (4 + p.reg) + homed t + p.c * 2 ^ 11 + lr_if p.l ≡ 2 ^ 11 + 2 ^ 14 → ⊥ =
      λ q. no-r11 p.reg (homed t) (homed-small t) (omega (arith, q, saves p.reg, range-r4 (4 + p.reg) (omega arith) (omega (arith, w.reg)), homed-small t, w.c, w.l)) in
      ne_eqb _ _ no ∙ sym (ap (λ b. b && eqb p.c 1 && eqb p.l 1 && not t) (ne_eqb p.r 1 (λ q. omega (arith, r, q))))
  by-r false e true =
      ne_eqb (0 + homed true + p.c * 2 ^ 11 + lr_if p.l) (2 ^ 11 + 2 ^ 14) (λ q. omega (arith, q, homes-some (p.adjust % 4), homed-small true, w.c, w.l))
      ∙ sym (and-not (eqb p.r 1 && eqb p.c 1 && eqb p.l 1))
  by-r false e false =
      let r : p.r ≡ 1 = omega (arith, eqb-false p.r 0 e, w.r) in
      by-cl p.c p.l w.c w.l ∙ sym (ap (λ b. b && eqb p.c 1 && eqb p.l 1 && true) (eq-eqb p.r 1 r))
    where
      by-cl : (c l : ℕ) → c < 2 → l < 2 → eqb (0 + 0 + c * 2 ^ 11 + lr_if l) (2 ^ 11 + 2 ^ 14) ≡ (true && eqb c 1 && eqb l 1 && true)
      by-cl zero zero h k = refl
      by-cl zero (suc zero) h k = refl
      by-cl (suc zero) zero h k = refl
      by-cl (suc zero) (suc zero) h k = refl
      by-cl (suc (suc c)) l h k = absurd (omega arith)
      by-cl zero (suc (suc l)) h k = absurd (omega arith)
      by-cl (suc zero) (suc (suc l)) h k = absurd (omega arith)

  pub which : chain_alone (pushed p) ≡ chain_fields p
  which = by-r (eqb p.r 0) refl (PF p)

  -- all of them have C=1
  pub chain-set : chain_alone (pushed p) ≡ true → eqb p.c 1 ≡ true
  chain-set h =
      let a = both (eqb p.r 1 && eqb p.c 1 && eqb p.l 1) (not (PF p)) (sym which ∙ h) in
      (both (eqb p.r 1) (eqb p.c 1) (both (eqb p.r 1 && eqb p.c 1) (eqb p.l 1) a.0).0).1

-- ---- the others
first-kept : (p : Packed) → chain_alone (pushed p) ≡ false → first_list p ≡ first_before p
unfolding first_list first_before
first-kept p h = ap (λ t. first_with p (if t then 0xFB else 0xFC)) h

codes-kept : (p : Packed) → chain_alone (pushed p) ≡ false → prologue_codes p ≡ codes_before p
codes-kept p h = ap (λ (l : List Code). record { list = l; end_size = 0 }) (prologue-is p ∙ ap (λ t. codes_with p (size_if t)) h ∙ sym (reversed p bits32))

written-kept : (p : Packed) → chain_alone (pushed p) ≡ false → written p ≡ written_before p
written-kept p h =
    ap (λ (l : List ℕ). record { bytes = take 16 (l ++ second_list p ++ replicate 16 0); first = code_bytes (length l); second = code_bytes (length (second_list p)) }) (first-kept p h)

-- ---- these
-- what stands before the nop in the list, sub and vpush, and behind it, the pushes
abbrev bytes_front : Packed → List ℕ
bytes_front p = when (not (PF p)) (up_code (amount p)) ++ vpop_code p

abbrev bytes_behind : Packed → List ℕ
bytes_behind p = pop_code (low (integers p (PF p))) (integers p (PF p)) p.l ++ when (eqb p.h 1) (0x04 ∷ []) ++ (0xFF ∷ [])

abbrev pub codes_front : Packed → List Code
codes_front p = ups p (PF p) ++ vpops p

abbrev pub codes_behind : Packed → List Code
codes_behind p = pops (low (integers p (PF p))) (integers p (PF p)) p.l ++ homes p

module _ (p : Packed) (set : eqb p.c 1 ≡ true) where
  byte-placed : (n : ℕ) → first_with p n ≡ bytes_front p ++ (n ∷ bytes_behind p)
  byte-placed n = rw set (simp append_assoc)

  code-placed : (n : Halfwords) → codes_with p n ≡ codes_front p ++ (nop n ∷ codes_behind p)
  code-placed n = rw set (simp append_assoc)

module _ (p : Packed) (w : Fit p) (h : chain_alone (pushed p) ≡ true) where
  set : eqb p.c 1 ≡ true
  set = chain-set p w h

  byte : ButFor 0xFC 0xFB (first_before p) (first_list p)
  unfolding first_list first_before
  byte =
      record { front = bytes_front p; back = bytes_behind p; before = byte-placed p set 0xFC; after = ap (λ t. first_with p (if t then 0xFB else 0xFC)) h ∙ byte-placed p set 0xFB }

  pub code-before : (codes_before p).list ≡ codes_front p ++ (nop bits32 ∷ codes_behind p)
  code-before = reversed p bits32 ∙ code-placed p set bits32

  pub code-after : (prologue_codes p).list ≡ codes_front p ++ (nop bits16 ∷ codes_behind p)
  code-after = prologue-is p ∙ ap (λ t. codes_with p (size_if t)) h ∙ code-placed p set bits16

  shorter : total size (codes_before p).list ≡ total size (prologue_codes p).list + 2
  unfolding total
  shorter =
      let was : total size (codes_before p).list ≡ total size (codes_front p) + (4 + total size (codes_behind p)) = ap (total size) code-before ∙ total-append size (codes_front p) (nop bits32 ∷ codes_behind p) in
      let is : total size (prologue_codes p).list ≡ total size (codes_front p) + (2 + total size (codes_behind p)) = ap (total size) code-after ∙ total-append size (codes_front p) (nop bits16 ∷ codes_behind p) in
      omega (arith, was, is)

-- ---- how many codes
only-most : (t : Bool) (u : Undo) (n : Halfwords) → length (only t u n) ≤ 1
only-most true u n = omega arith
only-most false u n = omega arith

pops-most : (t : Bool) (l b : ℕ) → length (pops t l b) ≤ 1
pops-most t l b = only-most (not (eqb (l + b) 0)) _ (size_if t)

ups-most : (p : Packed) (f : Bool) → length (ups p f) ≤ 1
ups-most p f = only-most (not f && not (eqb (amount p).0 0)) _ _

vpops-most : (p : Packed) → length (vpops p) ≤ 1
vpops-most p = only-most (eqb p.r 1 && not (eqb p.reg 7)) _ bits32

homes-most : (p : Packed) → length (homes p) ≤ 1
homes-most p = only-most (eqb p.h 1) _ bits16

first-few : (p : Packed) → length (prologue_codes p).list ≤ 5
first-few p =
    let l : ℕ = integers p (PF p) in
    let n : List Code = only (eqb p.c 1) Nothing (size_if (chain_alone (pushed p))) in
    let a = ap length (prologue-is p) in
    omega
    (arith, a, length-append (ups p (PF p) ++ vpops p ++ n ++ pops (low l) l p.l) (homes p), length-append (ups p (PF p) ++ vpops p ++ n) (pops (low l) l p.l), length-append (ups p (PF p) ++ vpops p) n, length-append (ups p (PF p)) (vpops p), ups-most p (PF p), vpops-most p, only-most (eqb p.c 1) Nothing (size_if (chain_alone (pushed p))), pops-most (low l) l p.l, homes-most p)

leaving-few : (p : Packed) (s t : Bool) (l : ℕ) → length (leaving s t p l).list ≤ 2
leaving-few p true t l = omega (arith, length-append (pops (low l) l 0) (only true (LoadLr (stack_words 5)) bits32), pops-most (low l) l 0)
leaving-few p false true l = omega (arith, pops-most (low l) l p.l)
leaving-few p false false l =
    omega (arith, length-append (pops (low l && eqb p.l 0) l p.l) (homes p), pops-most (low l && eqb p.l 0) l p.l, homes-most p)

second-few : (p : Packed) → length (epilogue_codes p).list ≤ 5
second-few p =
    let r = (leaving (eqb p.h 1 && eqb p.l 1) (eqb p.ret 0) p (integers p (EF p))).list in
    omega
    (arith, length-append (ups p (EF p) ++ vpops p) r, length-append (ups p (EF p)) (vpops p), ups-most p (EF p), vpops-most p, leaving-few p (eqb p.h 1 && eqb p.l 1) (eqb p.ret 0) (integers p (EF p)))

pub chained : (p : Packed) → Fit p → Chained p
chained p w = record {
  which = which p w;
  kept = λ h. (written-kept p h, codes-kept p h);
  byte = byte p w;
  code = λ h. record { front = codes_front p; back = codes_behind p; before = code-before p w h; after = code-after p w h };
  shorter = shorter p w;
  fit = lists-fit p;
  few = (first-few p, second-few p);
}
