-- Each list of a packed word takes at most 8 bytes, so both fit 16.
-- Assumes nothing.
use Rattle.std.specs.Prelude.{if◌then◌else◌, Option, None, Some}
use Prim.Native.Nat.{ℕ, ◌+◌, ◌≤◌}
use mathlib.Core.List.{List, [], ◌∷◌, ◌++◌}
use mathlib.Core.Bool.{Bool, true, false, not, ◌&&◌}
use lib.ListN.{length, length-append}
use lib.Dec.{leb, eqb}
use native.Mathlib.Omega.{arith}
use Rattle.words.specs.declared.StackWords.{StackWords}
use Rattle.packed.specs.Packed.{amount, PF, EF, integers}
use Rattle.packed_codes.specs.PackedCodes.{when, up_code, vpop_code, up_to, d_form, pop_code, low, pushed, chain_code, first_list, leave, second_list}
use Rattle.packed_codes.specs.Chain.{first_before}
use Rattle.packed.specs.declared.Packed.{Packed}

-- at most n bytes
record Short (l : List ℕ) (n : ℕ) : Type 0 where
  most : length l ≤ n

one : {a : ℕ} → Short (a ∷ []) 1
one = record { most = omega arith }

two : {a b : ℕ} → Short (a ∷ b ∷ []) 2
two = record { most = omega arith }

more : {l : List ℕ} {m : ℕ} (n : ℕ) → Short l m → m ≤ n → Short l n
more n s h = record { most = omega (arith, s.most) }

when-short : (b : Bool) {l : List ℕ} {n : ℕ} → Short l n → Short (when b l) n
when-short true s = s
when-short false s = record { most = omega arith }

if-short : (b : Bool) {k l : List ℕ} {n : ℕ} → Short k n → Short l n → Short (if b then k else l) n
if-short true s t = s
if-short false s t = t

join : {k l : List ℕ} {m n : ℕ} → Short k m → Short l n → Short (k ++ l) (m + n)
join {k} {l} s t = record { most = omega (arith, length-append k l, s.most, t.most) }

up-short : (n : StackWords) → Short (up_code n) 2
up-short n = when-short (not (eqb n.0 0)) (if-short (leb n.0 127) (more 2 one (omega arith)) two)

vpop-short : (p : Packed) → Short (vpop_code p) 1
vpop-short p = when-short (eqb p.r 1 && not (eqb p.reg 7)) one

d-short : (x : Option ℕ) (f b : ℕ) {other : List ℕ} → Short other 2 → Short (d_form x f b other) 2
d-short None f b s = s
d-short (Some x) f b s = more 2 one (omega arith)

pop-short : (narrow : Bool) (l b : ℕ) → Short (pop_code narrow l b) 2
pop-short true l b = when-short (not (eqb (l + b) 0)) (d-short (up_to 4 4 l) 0xD0 b two)
pop-short false l b = when-short (not (eqb (l + b) 0)) (d-short (up_to 4 8 l) 0xD8 b two)

-- the first list with this byte as the nop, for C=1
abbrev pub first_with : Packed → (nop : ℕ) → List ℕ
first_with p n =
    let l : ℕ = integers p (PF p) in
    when (not (PF p)) (up_code (amount p)) ++ vpop_code p ++ when (eqb p.c 1) (n ∷ []) ++ pop_code (low l) l p.l ++ when (eqb p.h 1) (0x04 ∷ []) ++ (0xFF ∷ [])

with-most : (p : Packed) (nop : ℕ) → Short (first_with p nop) 8
with-most p n =
    let l : ℕ = integers p (PF p) in
    let sub = when-short (not (PF p)) (up-short (amount p)) in
    let nop = when-short (eqb p.c 1) {l = n ∷ []} one in
    let home = when-short (eqb p.h 1) {l = 0x04 ∷ []} one in
    join (join (join (join (join sub (vpop-short p)) nop) (pop-short (low l) l p.l)) home) (one {a = 0xFF})

first-most : (p : Packed) → Short (first_list p) 8
unfolding first_list
first-most p = with-most p (chain_code (pushed p))

before-most : (p : Packed) → Short (first_before p) 8
unfolding first_before
before-most p = with-most p 0xFC

leave-short : (p : Packed) (l : ℕ) → Short (leave p l) 5
leave-short p l =
    let load = join (pop-short (low l) l 0) (join (one {a = 0xEF}) (two {a = 0x05} {b = 0xFF})) in
    let return = more 5 (join (pop-short (low l) l p.l) (one {a = 0xFF})) (omega arith) in
    let home = when-short (eqb p.h 1) {l = 0x04 ∷ []} one in
    let jump = more 5 (join (join (pop-short (low l && eqb p.l 0) l p.l) home) (one {a = 0xFC + p.ret})) (omega arith) in
    if-short (eqb p.h 1 && eqb p.l 1) load (if-short (eqb p.ret 0) return jump)

second-most : (p : Packed) → Short (second_list p) 8
unfolding second_list
second-most p =
    let add = when-short (not (EF p)) (up-short (amount p)) in
    when-short (not (eqb p.ret 3)) (join (join add (vpop-short p)) (leave-short p (integers p (EF p))))

pub lists-fit : (p : Packed) → length (first_list p) + length (second_list p) ≤ 16
lists-fit p = omega (arith, (first-most p).most, (second-most p).most)

pub before-fit : (p : Packed) → length (first_before p) + length (second_list p) ≤ 16
before-fit p = omega (arith, (before-most p).most, (second-most p).most)
