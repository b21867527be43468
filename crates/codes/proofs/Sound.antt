-- What the table's codes are, row by row: a list that is popped is of r0-r12 and LR, whichever row made it; SP is taken from a register other
-- than SP and pc; d registers have numbers below 32.
-- Assumes nothing.
use Rattle.std.specs.Prelude.{if◌then◌else◌}
use Prim.Native.Nat.{ℕ, ◌+◌, ◌<◌}
use mathlib.Core.Path.{◌≡◌, refl, subst}
use mathlib.Core.Logic.{◌≢◌}
use mathlib.Core.List.{List, [], ◌∷◌}
use mathlib.Core.Bool.{Bool, true, false, ◌||◌}
use lib.Dec.{leb, eqb}
use native.Mathlib.Omega.{arith}
use borrow.Author.Tests.{eqb-false}
use Rattle.words.specs.Bits.{bits}
use Rattle.words.specs.Units.{stack_words}
use Rattle.codes.specs.Table.{Row, rows, row_in, row_of, range, lr_if}
use Rattle.codes.specs.declared.Meaning.TheVariants.{Does, End, Undefined}
use Rattle.codes.specs.declared.Undo.{Undo}
use Rattle.codes.specs.declared.Undo.TheVariants.{Up, Pop, SpFrom, Vpop, LoadLr, Nothing}
use Rattle.codes.proofs.Registers.{RegisterList, range_small, joined-list}

abbrev pub Sound : Undo → Type 0
Sound (Up n) = Unit {0}
Sound (Pop l) = RegisterList l
Sound (SpFrom x) = (x < 15) × (x ≢ 13)
Sound (Vpop s e) = e < 32
Sound (LoadLr n) = Unit {0}
Sound Nothing = Unit {0}

-- what a row's codes are
abbrev AllSound : Row → Type 0
AllSound r = (v : ℕ) (u : Undo) → r.means v ≡ Does u → Sound u

infixr 5 ◌&◌
data Every : List Row → Type 0 where
  end : Every []
  ◌&◌ : {r : Row} {rs : List Row} → AllSound r → Every rs → Every (r ∷ rs)

no-does : (u : Undo) → Undefined ≡ Does u → Sound u
no-does u h = absurd (let z : ◌≡◌ {A = ℕ} 0 1 = cc in omega arith)

no_end : (u : Undo) → End ≡ Does u → Sound u
no_end u h = absurd (let z : ◌≡◌ {A = ℕ} 0 1 = cc in omega arith)

-- the one that the row says
says : (w u : Undo) → Sound w → Does w ≡ Does u → Sound u
says w u s h = let e : w ≡ u = cc in subst Sound e s

-- or none where its test fails
says_if : (t : Bool) (w u : Undo) → Sound w → (if t then Does w else Undefined) ≡ Does u → Sound u
says_if true w u s h = says w u s h
says_if false w u s h = no-does u h

-- SP is taken from a register, but not from SP or pc
says-from : (x : ℕ) (u : Undo) → x < 16 → (if eqb x 13 || eqb x 15 then Undefined else Does (SpFrom x)) ≡ Does u → Sound u
says-from x u l h = go (eqb x 13) (eqb x 15) refl refl h
  where
    go : (s t : Bool) → eqb x 13 ≡ s → eqb x 15 ≡ t → (if s || t then Undefined else Does (SpFrom x)) ≡ Does u → Sound u
    go true t p q h = no-does u h
    go false true p q h = no-does u h
    go false false p q h = says (SpFrom x) u (omega (arith, eqb-false x 15 q), eqb-false x 13 p) h

-- a pop of registers and, by a bit of the code, LR
pops : (l : ℕ) → l < 8192 → (k v : ℕ) (u : Undo) → Does (Pop (l + lr_if (bits k 1 v))) ≡ Does u → Sound u
pops l h k v u = says (Pop (l + lr_if (bits k 1 v))) u (joined-list l h k v)

sound-rows : Every rows
unfolding rows
sound-rows =
    (λ v u. says (Up (stack_words (bits 0 7 v))) u tt)
    & (λ v u. pops (bits 0 13 v) (omega arith) 13 v u)
    & (λ v u. says-from (bits 0 4 v) u (omega arith))
    & (λ v u. pops (range 4 (4 + bits 0 2 v)) (range_small 4 (4 + bits 0 2 v) (omega arith)) 2 v u)
    & (λ v u. pops (range 4 (8 + bits 0 2 v)) (range_small 4 (8 + bits 0 2 v) (omega arith)) 2 v u)
    & (λ v u. says (Vpop 8 (8 + bits 0 3 v)) u (omega arith))
    & (λ v u. says (Up (stack_words (bits 0 10 v))) u tt)
    & (λ v u. pops (bits 0 8 v) (omega arith) 8 v u)
    & (λ v u. no-does u)
    & (λ v u. says_if (eqb (bits 4 4 v) 0) (LoadLr (stack_words (bits 0 4 v))) u tt)
    & (λ v u. no-does u)
    & (λ v u. says_if (leb (bits 4 4 v) (bits 0 4 v)) (Vpop (bits 4 4 v) (bits 0 4 v)) u (omega arith))
    & (λ v u. says_if (leb (bits 4 4 v) (bits 0 4 v)) (Vpop (16 + bits 4 4 v) (16 + bits 0 4 v)) u (omega arith))
    & (λ v u. says (Up (stack_words (bits 0 16 v))) u tt)
    & (λ v u. says (Up (stack_words (bits 0 24 v))) u tt)
    & (λ v u. says (Up (stack_words (bits 0 16 v))) u tt)
    & (λ v u. says (Up (stack_words (bits 0 24 v))) u tt)
    & (λ v u. says Nothing u tt)
    & (λ v u. says Nothing u tt)
    & (λ v u. no_end u)
    & (λ v u. no_end u)
    & (λ v u. no_end u)
    & end

-- and so of the row of each byte
sound-in : {rs : List Row} (b : ℕ) → Every rs → AllSound (row_in rs b)
unfolding row_in
sound-in b end v u h = no-does u h
sound-in b (◌&◌ {r = r} {rs = rs} p ps) v u h = go (leb b r.last) h (λ q. sound-in b ps v u q)
  where
    go : (t : Bool) → (if t then r else row_in rs b).means v ≡ Does u → ((row_in rs b).means v ≡ Does u → Sound u) → Sound u
    go true q ih = p v u q
    go false q ih = ih q

pub sound-code : (b v : ℕ) (u : Undo) → (row_of b).means v ≡ Does u → Sound u
sound-code b = sound-in b sound-rows

-- every form of pop makes the same list
pub pop-list : (b v l : ℕ) → (row_of b).means v ≡ Does (Pop l) → RegisterList l
pop-list b v l = sound-code b v (Pop l)
