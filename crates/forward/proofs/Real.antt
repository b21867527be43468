-- Registers stay of 32 or 64 bits and bytes stay bytes, whatever the instructions of a prologue store and those of an epilogue load.
-- Assumes nothing.
use Rattle.std.specs.Prelude.{if◌then◌else◌, Ok}
use Prim.Native.Nat.{ℕ, zero, suc, ◌+◌, ◌-◌, ◌*◌, ◌/◌, ◌%◌, ◌^◌, ◌<◌}
use mathlib.Core.Path.{◌≡◌, subst}
use mathlib.Core.Bool.{Bool, true, false}
use mathlib.Core.List.{List, [], ◌∷◌}
use lib.Dec.{ltb, eqb}
use lib.ListN.{get_or, set}
use native.Mathlib.Omega.{arith}
use Rattle.words.specs.Bits.{bit}
use Rattle.lent.specs.Lent.{Lent, holds, word_at}
use Rattle.words.specs.declared.Refusal.TheVariants.{BadStack}
use Rattle.codes.specs.declared.Undo.{Undo}
use Rattle.codes.specs.declared.Undo.TheVariants.{Up, Pop, SpFrom, Vpop, LoadLr, Nothing}
use Rattle.machine.specs.Registers.{reg, set_reg, set_d, set_sp}
use Rattle.machine.specs.Step.{load, pop_reg, pop_d, pop, vpop, effect}
use Rattle.machine.specs.declared.Regs.{Regs}
use Rattle.forward.specs.Registers.{value, width}
use Rattle.words.proofs.Answers.{bind_ok, need-ok}
use Rattle.forward.proofs.Storing.{put1, put2, put3, store, store_reg, store_all}

-- every element is below a bound
abbrev Below : ℕ → List ℕ → Type 0
Below b l = (i : ℕ) → get_or l i 0 < b

below_set : (b : ℕ) (l : List ℕ) (k v : ℕ) → 0 < b → Below b l → v < b → Below b (set l k v)
below_set b [] k v z h q i = z
below_set b (x ∷ l) zero v z h q zero = q
below_set b (x ∷ l) zero v z h q (suc i) = h (suc i)
below_set b (x ∷ l) (suc k) v z h q zero = h 0
below_set b (x ∷ l) (suc k) v z h q (suc i) = below_set b l k v z (λ j. h (suc j)) q i

-- all but SP and pc
pub record Real (g : Regs) : Type 0 where
  pub r : Below (2 ^ 32) g.r
  pub lr : g.lr < 2 ^ 32
  pub d : Below (2 ^ 64) g.d

abbrev pub Bytes : Lent → Type 0
Bytes k = Below (2 ^ 8) k.bytes

-- a state, the pc apart
pub record Solid (g : Regs) (k : Lent) : Type 0 where
  pub real : Real g
  pub bytes : Bytes k
  pub sp : g.sp < 2 ^ 32

-- ---- reading
reg-real : {g : Regs} (x : ℕ) → Real g → reg g x < 2 ^ 32
reg-real {g} x w = go (eqb x 14)
  where
    go : (t : Bool) → (if t then g.lr else get_or g.r x 0) < 2 ^ 32
    go true = w.lr
    go false = w.r x

word-real : (k : Lent) (a : ℕ) → Bytes k → word_at k a < 2 ^ 32
word-real k a h = let i : ℕ = a - k.base in omega (arith, h i, h (i + 1), h (i + 2), h (i + 2 + 1))

-- ---- writing
pub set-real : {g : Regs} (x v : ℕ) → Real g → v < 2 ^ 32 → Real (set_reg g x v)
set-real {g} x v w h = record { r = below_set (2 ^ 32) g.r x v (omega arith) w.r h; lr = go (eqb x 14); d = w.d }
  where
    go : (t : Bool) → (if t then v else g.lr) < 2 ^ 32
    go true = h
    go false = w.lr

set-d-real : {g : Regs} (x v : ℕ) → Real g → v < 2 ^ 64 → Real (set_d g x v)
set-d-real {g} x v w h = record { r = w.r; lr = w.lr; d = below_set (2 ^ 64) g.d x v (omega arith) w.d h }

pub set-sp-real : {g : Regs} (a : ℕ) → Real g → Real (set_sp g a)
set-sp-real a w = record { r = w.r; lr = w.lr; d = w.d }

pub store-real : (k : Lent) (a v : ℕ) → Bytes k → v < 2 ^ 32 → Bytes (store k a v)
store-real k a v h q =
    let s : List ℕ = k.bytes in
    let i : ℕ = a - k.base in
    below_set 256 (put3 s i v) (i + 3) (v / 256 / 256 / 256) (omega arith)
    (below_set 256 (put2 s i v) (i + 2) (v / 256 / 256 % 256) (omega arith)
    (below_set 256 (put1 s i v) (i + 1) (v / 256 % 256) (omega arith) (below_set 256 s i (v % 256) (omega arith) h (omega arith)) (omega arith))
    (omega arith))
    (omega arith)

store-reg-real : (k : Lent) (a x : ℕ) (g : Regs) → Bytes k → Real g → Bytes (store_reg k a x (value g x))
store-reg-real k a x g h w = go (ltb x 16)
  where
    read : Bool → ℕ
    read t = if t then reg g x else get_or g.d (x - 16) 0

    go : (t : Bool) → Bytes (if t then store k a (read t) else store (store k a (read t % 2 ^ 32)) (a + 4) (read t / 2 ^ 32))
    go true = store-real k a (reg g x) h (reg-real x w)
    go false =
        let v : ℕ = get_or g.d (x - 16) 0 in
        let q : v < 2 ^ 64 = w.d (x - 16) in
        store-real (store k a (v % 2 ^ 32)) (a + 4) (v / 2 ^ 32) (store-real k a (v % 2 ^ 32) h (omega arith)) (omega arith)

pub store-all-real : (xs : List ℕ) (k : Lent) (a : ℕ) (g : Regs) → Bytes k → Real g → Bytes (store_all k a xs g)
store-all-real [] k a g h w = h
store-all-real (x ∷ xs) k a g h w = store-all-real xs (store_reg k a x (value g x)) (a + width x) g (store-reg-real k a x g h w) w

-- ---- a code's effect
load-real : (k : Lent) (a w : ℕ) → Bytes k → load k a ≡ Ok w → w < 2 ^ 32
unfolding load
load-real k a w h q =
    let e = need-ok (holds k a 4) BadStack (Ok (word_at k a)) w q in
    let z : word_at k a ≡ w = cc e.1 in
    omega (arith, word-real k a h)

pop-reg-real : (k : Lent) (x : ℕ) (g h : Regs) → Bytes k → Real g → pop_reg k x g ≡ Ok h → Real h
unfolding pop_reg
pop-reg-real k x g h b w q =
    let e = bind_ok (load k g.sp) _ h q in
    let z : set_sp (set_reg g x e.0) (g.sp + 4) ≡ h = cc e.2 in
    subst Real z (set-sp-real (g.sp + 4) (set-real x e.0 w (load-real k g.sp e.0 b e.1)))

pop-d-real : (k : Lent) (x : ℕ) (g h : Regs) → Bytes k → Real g → pop_d k x g ≡ Ok h → Real h
unfolding pop_d
pop-d-real k x g h b w q =
    let e = bind_ok (load k g.sp) _ h q in
    let f = bind_ok (load k (g.sp + 4)) _ h e.2 in
    let z : set_sp (set_d g x (e.0 + 2 ^ 32 * f.0)) (g.sp + 8) ≡ h = cc f.2 in
    subst Real z
    (set-sp-real (g.sp + 8)
    (set-d-real x (e.0 + 2 ^ 32 * f.0) w (omega (arith, load-real k g.sp e.0 b e.1, load-real k (g.sp + 4) f.0 b f.1))))

pop-real : (k : Lent) (l n : ℕ) (g h : Regs) → Bytes k → Real g → pop k l n g ≡ Ok h → Real h
unfolding pop
pop-real k l zero g h b w q = let z : g ≡ h = cc in subst Real z w
pop-real k l (suc n) g h b w q =
    let e = bind_ok (pop k l n g) _ h q in
    go (bit n l) e.0 (pop-real k l n g e.0 b w e.1) e.2
  where
    go : (t : Bool) (m : Regs) → Real m → (if t then pop_reg k n m else Ok m) ≡ Ok h → Real h
    go true m v p = pop-reg-real k n m h b v p
    go false m v p = let z : m ≡ h = cc in subst Real z v

vpop-real : (k : Lent) (x n : ℕ) (g h : Regs) → Bytes k → Real g → vpop k x n g ≡ Ok h → Real h
unfolding vpop
vpop-real k x zero g h b w q = let z : g ≡ h = cc in subst Real z w
vpop-real k x (suc n) g h b w q =
    let e = bind_ok (vpop k x n g) _ h q in
    pop-d-real k (x + n) e.0 h b (vpop-real k x n g e.0 b w e.1) e.2

pub effect-real : (k : Lent) (u : Undo) (g h : Regs) → Bytes k → Real g → effect k u g ≡ Ok h → Real h
effect-real k (Up n) g h b w q = let z : set_sp g (g.sp + 4 * n.0) ≡ h = cc in subst Real z (set-sp-real (g.sp + 4 * n.0) w)
effect-real k (Pop l) g h b w q = pop-real k l 15 g h b w q
effect-real k (SpFrom x) g h b w q = let z : set_sp g (reg g x) ≡ h = cc in subst Real z (set-sp-real (reg g x) w)
effect-real k (Vpop s e) g h b w q = vpop-real k s (e + 1 - s) g h b w q
effect-real k (LoadLr n) g h b w q =
    let e = bind_ok (load k g.sp) _ h q in
    let z : set_sp (set_reg g 14 e.0) (g.sp + 4 * n.0) ≡ h = cc e.2 in
    subst Real z (set-sp-real (g.sp + 4 * n.0) (set-real 14 e.0 w (load-real k g.sp e.0 b e.1)))
effect-real k Nothing g h b w q = let z : g ≡ h = cc in subst Real z w
