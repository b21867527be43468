-- The instruction of an epilogue does what its code does, where the SP that the code leaves has 32 bits.
-- Assumes nothing.
use Rattle.std.specs.Prelude.{if◌then◌else◌, Ok}
use Prim.Native.Nat.{ℕ, ◌+◌, ◌-◌, ◌^◌, ◌<◌}
use mathlib.Core.Path.{◌≡◌, refl, sym, subst, ◌∙◌}
use mathlib.Core.Bool.{Bool, true, false}
use mathlib.Core.Logic.{◌≢◌}
use mathlib.Core.List.{List, [], ◌∷◌}
use lib.Dec.{eqb}
use native.Mathlib.Omega.{arith}
use borrow.Author.Tests.{eqb-true, lt-ltb, ne_eqb}
use Rattle.words.specs.Bits.{bit, bits}
use Rattle.words.specs.Units.{stack_bytes}
use Rattle.words.specs.Answer.{◌>>=◌}
use Rattle.words.proofs.Answers.{bind_ok, ok_same}
use Rattle.lent.specs.Lent.{Lent}
use Rattle.codes.specs.declared.Undo.{Undo}
use Rattle.codes.specs.declared.Undo.TheVariants.{Up, Pop, SpFrom, Vpop, LoadLr, Nothing}
use Rattle.codes.proofs.Registers.{RegisterList, list-small, list-no-sp}
use Rattle.codes.proofs.Sound.{Sound}
use Rattle.machine.specs.Registers.{reg, set_reg, set_sp}
use Rattle.machine.specs.Step.{load, pop_reg, effect}
use Rattle.machine.specs.declared.Regs.{Regs}
use Rattle.thumb.specs.Instruction.{instruction_at}
use Rattle.thumb.specs.declared.Action.{Action}
use Rattle.thumb.specs.declared.Action.TheVariants as T
use Rattle.expected.specs.Expected.{loading, acts_after}
use Rattle.comparing.specs.Items.{Coded, closes, item}
use Rattle.fitting.specs.Exactly.{As, Stands}
use Rattle.forward.specs.Registers.{value}
use Rattle.forward.specs.Saving.{listed, saves, bytes}
use Rattle.forward.specs.State.{Whole, State, SameRest}
use Rattle.forward.specs.Epilogue.{Undoes}
use Rattle.executing.specs.Manual.{plus, read, Has, Loads, Moves, Acts, Executes}
use Rattle.executing.specs.Claims.{Low}
use Rattle.executing.proofs.Registers.{same_rest, moved-sp}
use Rattle.executing.proofs.Table.{Known}
use Rattle.executing.proofs.Popping.{bytes-append, Like, Loaded, loaded-reg, loaded-list, loaded-up}

-- what was executed, by the code
abbrev pub Closing : Undo → State → State → Type 0
Closing (Up n) s t = Loads (stack_bytes n) [] s t
Closing (Pop l) s t = Loads (bytes (saves (Pop l))) (saves (Pop l)) s t
Closing (SpFrom x) s t = Moves 13 x s t
Closing (Vpop a b) s t = Loads (bytes (saves (Vpop a b))) (saves (Vpop a b)) s t
Closing (LoadLr n) s t = Loads (stack_bytes n) (14 ∷ []) s t
Closing Nothing s t = Unit {0}

-- a code's list has no pc
no-pc : (l : ℕ) → RegisterList l → bit 15 l ≡ false
no-pc l h = ne_eqb (bits 15 1 l) 1 (λ (q : bits 15 1 l ≡ 1). omega (arith, list-small l h))

pub popped : (l : ℕ) (s t : State) → RegisterList l → Acts (T.Pop l) s t → Loads (bytes (listed l 15)) (listed l 15) s t
popped l s t h f = subst (λ n. Loads n (listed l 15) s t) same f
  where
    none : bytes (if bit 15 l then 15 ∷ [] else []) ≡ 0
    none = rw (no-pc l h) refl

    same : bytes (listed l 16) ≡ bytes (listed l 15)
    same = bytes-append (listed l 15) (if bit 15 l then 15 ∷ [] else []) ∙ omega (arith, none)

loaded-lr : (n : ℕ) (a : Action) (s t : State) → a ≡ loading 14 n → Acts a s t → Loads n (14 ∷ []) s t
loaded-lr n a s t h f = go (eqb n 4) refl (subst (λ x. Acts x s t) h f)
  where
    go : (q : Bool) → eqb n 4 ≡ q → Acts (if q then T.Pop (2 ^ 14) else T.Load 14 n) s t → Loads n (14 ∷ []) s t
    go true e g = subst (λ m. Loads m (14 ∷ []) s t) (sym (eqb-true n 4 e)) g
    go false e g = g

pub closing : (u : Undo) (a : Action) (s t : State) → Sound u → As (acts_after false u) a → Acts a s t → Closing u s t
closing (Up n) a s t o e f = subst (λ x. Acts x s t) e f
closing (Pop l) a s t o e f = popped l s t o (subst (λ x. Acts x s t) e f)
closing (SpFrom x) a s t o e f = subst (λ y. Acts y s t) e f
closing (Vpop i j) a s t o e f = subst (λ x. Acts x s t) e f
closing (LoadLr n) a s t o e f = loaded-lr (stack_bytes n) a s t e f
closing Nothing a s t o e f = tt

-- ---- what it comes to
pub plus-is : (a n b : ℕ) → b ≡ a + n → b < 2 ^ 32 → plus a n ≡ b
plus-is a n b e h = omega arith

abbrev Done : (s t : State) → Regs → Type 0
Done s t after = (t.regs.sp ≡ after.sp) × SameRest after t.regs

loads-done :
    (n : ℕ) (xs : List ℕ) (s t : State) (after : Regs) → Loads n xs s t → Whole after → after.sp ≡ s.regs.sp + n → after.sp < 2 ^ 32
    → ((g : Regs) → Has s.stack s.regs.sp xs g → (x : ℕ) → Like s.stack s.regs xs g x → value after x ≡ value g x)
    → Done s t after
loads-done n xs s t after f w p m same =
    (f.sp ∙ plus-is s.regs.sp n after.sp p m, same_rest w t.whole (λ x. sym (same t.regs f.loaded x (f.rest x))))

loaded-done : (xs : List ℕ) (s t : State) (after : Regs) → Loads (bytes xs) xs s t → Loaded s.stack s.regs xs after → after.sp < 2 ^ 32 → Done s t after
loaded-done xs s t after f l m = loads-done (bytes xs) xs s t after f l.whole l.sp m l.same

-- LR and then further up
pub record LrLoaded (k : Lent) (n : ℕ) (g after : Regs) : Type 0 where
  pub word : ℕ
  pub given : load k g.sp ≡ Ok word
  pub is : set_sp (set_reg g 14 word) (g.sp + n) ≡ after

pub lr-loaded : (k : Lent) (n : ℕ) (g after : Regs) → (load k g.sp >>= λ w. Ok (set_sp (set_reg g 14 w) (g.sp + n))) ≡ Ok after → LrLoaded k n g after
lr-loaded k n g after e = let a = bind_ok (load k g.sp) _ after e in record { word = a.0; given = a.1; is = ok_same _ _ a.2 }

lr-popped : (k : Lent) (g : Regs) (w : ℕ) → load k g.sp ≡ Ok w → pop_reg k 14 g ≡ Ok (set_sp (set_reg g 14 w) (g.sp + 4))
unfolding pop_reg
lr-popped k g w e = rw e refl

lr-done : (n : ℕ) (s t : State) (after : Regs) → Loads n (14 ∷ []) s t → LrLoaded s.stack n s.regs after → after.sp < 2 ^ 32 → Done s t after
lr-done n s t after f l m =
    let g : Regs = s.regs in
    let h : Regs = set_sp (set_reg g 14 l.word) (g.sp + n) in
    let z : Loaded s.stack g (14 ∷ []) (set_sp (set_reg g 14 l.word) (g.sp + 4)) =
    loaded-reg s.stack 14 g _ (omega arith) (λ q. omega arith) s.whole (lr-popped s.stack g l.word l.given) in
    subst (Done s t) l.is
    (loads-done n (14 ∷ []) s t h f (record { r = z.whole.r; d = z.whole.d }) refl
    (subst (λ (x : Regs). x.sp < 2 ^ 32) (sym l.is) m) z.same)

from-done : (x : ℕ) (s t : State) → x < 15 → x ≢ 13 → Moves 13 x s t → Done s t (set_sp s.regs (reg s.regs x))
from-done x s t l n f =
    let g : Regs = s.regs in
    let x15 : x ≢ 15 = λ q. omega arith in
    let same : read g x ≡ reg g x = rw (ne_eqb x 15 x15, ne_eqb x 13 n, lt-ltb x 16 (omega arith)) refl in
    (f.taken (λ q. omega arith) ∙ same, same_rest (record { r = s.whole.r; d = s.whole.d }) t.whole (moved-sp f))

done-of : (u : Undo) (s t : State) (after : Regs) → u ≢ Nothing → Sound u → Closing u s t → effect s.stack u s.regs ≡ Ok after → after.sp < 2 ^ 32 → Done s t after
done-of (Up n) s t after k o f e m =
    let g : Regs = s.regs in
    let z : set_sp g (g.sp + stack_bytes n) ≡ after = ok_same _ _ e in
    subst (Done s t) z
    (loads-done (stack_bytes n) [] s t (set_sp g (g.sp + stack_bytes n)) f (record { r = s.whole.r; d = s.whole.d }) refl
    (subst (λ (x : Regs). x.sp < 2 ^ 32) (sym z) m) (λ h a x like. sym (like (λ q. q))))
done-of (Pop l) s t after k o f e m = loaded-done (saves (Pop l)) s t after f (loaded-list s.stack l 15 s.regs after (list-no-sp l o) (omega arith) s.whole e) m
done-of (SpFrom x) s t after k o f e m = subst (Done s t) (ok_same _ _ e) (from-done x s t o.0 o.1 f)
done-of (Vpop a b) s t after k o f e m =
    loaded-done (saves (Vpop a b)) s t after f (loaded-up s.stack a (b + 1 - a) s.regs after (λ i q. omega arith) s.whole e) m
done-of (LoadLr n) s t after k o f e m = lr-done (stack_bytes n) s t after f (lr-loaded s.stack (stack_bytes n) s.regs after e) m
done-of Nothing s t after k o f e m = absurd (k refl)

-- no memory is written
pub stack-closing : (u : Undo) (s t : State) → u ≢ Nothing → Closing u s t → t.stack ≡ s.stack
stack-closing (Up n) s t k f = f.stack
stack-closing (Pop l) s t k f = f.stack
stack-closing (SpFrom x) s t k f = f.stack
stack-closing (Vpop a b) s t k f = f.stack
stack-closing (LoadLr n) s t k f = f.stack
stack-closing Nothing s t k f = absurd (k refl)

pub undoes-of : (u : Undo) (s t : State) → u ≢ Nothing → Sound u → Closing u s t → Low u s → Undoes u s t
undoes-of u s t k o f low = record { does = λ after e. done-of u s t after k o f e (low after e); stack = stack-closing u s t k f }

-- of an instruction that stands for its code
pub closed : (c : Coded) → Known c → (s : List ℕ) (o : ℕ) (a b : State) → Stands (item s o (closes false c)) → Executes (instruction_at s o) a b → Closing c.code.undo a b
closed c k s o a b h x = closing c.code.undo (instruction_at s o).action a b k.sound h.does x.does
