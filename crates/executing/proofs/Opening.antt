-- The instruction of a prologue does what its code undoes.
-- Assumes nothing.
use Rattle.std.specs.Prelude.{if◌then◌else◌}
use Prim.Native.Nat.{ℕ, ◌+◌, ◌^◌, ◌≤◌, ◌<◌}
use mathlib.Core.Path.{◌≡◌, refl, sym, ap, subst, ◌∙◌}
use mathlib.Core.Bool.{Bool, true, false}
use mathlib.Core.Logic.{◌≢◌, inl, inr}
use mathlib.Core.List.{List, [], ◌∷◌}
use lib.Dec.{eqb}
use lib.ListN.{length}
use native.Mathlib.Omega.{arith}
use borrow.Author.Tests.{eqb-true}
use Rattle.words.specs.Units.{stack_bytes}
use Rattle.words.specs.declared.StackWords.{StackWords}
use Rattle.lent.specs.Lent.{Lent, end}
use Rattle.codes.specs.declared.Code.{Code}
use Rattle.codes.specs.declared.Undo.{Undo}
use Rattle.codes.specs.declared.Undo.TheVariants.{Up, Pop, SpFrom, Vpop, LoadLr, Nothing}
use Rattle.machine.proofs.Loading.{holding}
use Rattle.machine.specs.declared.Regs.{Regs}
use Rattle.thumb.specs.Instruction.{instruction_at}
use Rattle.thumb.specs.declared.Action.{Action}
use Rattle.thumb.specs.declared.Action.TheVariants.{Push, SubSp, Store}
use Rattle.expected.specs.Expected.{home, storing, lowering, acts_before}
use Rattle.comparing.specs.Items.{Coded, opens, item}
use Rattle.expected.specs.declared.Acts.TheVariants.{This, OrHome}
use Rattle.fitting.specs.Exactly.{As, Stands}
use Rattle.forward.specs.Registers.{width}
use Rattle.forward.specs.Saving.{saves, bytes, falls}
use Rattle.forward.specs.State.{State}
use Rattle.forward.specs.Prologue.{Stored, Pushes, Does}
use Rattle.forward.specs.Met.{FineOne}
use Rattle.forward.proofs.Memory.{outside-more}
use Rattle.executing.specs.Manual.{less, Has, Stores, Moves, Acts, Executes}
use Rattle.executing.proofs.Registers.{all-value, moved-rest}
use Rattle.executing.proofs.Table.{Known}

-- SP falls over what is stored, and maybe further
pub record Lowers (n : ℕ) (s t : State) : Type 0 where
  pub list : List ℕ
  pub few : bytes list ≤ n
  pub stores : Stores n list s t

-- what was executed, by the code
abbrev pub Opening : Undo → State → State → Type 0
Opening (Up n) s t = Lowers (stack_bytes n) s t
Opening (Pop l) s t = Stores (bytes (saves (Pop l))) (saves (Pop l)) s t
Opening (SpFrom x) s t = Moves x 13 s t
Opening (Vpop a b) s t = Stores (bytes (saves (Vpop a b))) (saves (Vpop a b)) s t
Opening (LoadLr n) s t = Stores (stack_bytes n) (14 ∷ []) s t
Opening Nothing s t = Unit {0}

lowered : (b : ℕ) (n : StackWords) (a : Action) (s t : State) → (b ≡ 4 → n.0 ≡ 4) → As (lowering b (SubSp (stack_bytes n))) a → Acts a s t → Lowers (stack_bytes n) s t
lowered b n a s t four h f = go (eqb b 4) refl h
  where
    plain : a ≡ SubSp (stack_bytes n) → Lowers (stack_bytes n) s t
    plain e = record { list = []; few = omega arith; stores = subst (λ x. Acts x s t) e f }

    homed : n.0 ≡ 4 → a ≡ home → Lowers (stack_bytes n) s t
    homed z e =
        let w : 16 ≡ stack_bytes n = omega arith in
        record { list = 0 ∷ 1 ∷ 2 ∷ 3 ∷ []; few = omega arith; stores = subst (λ m. Stores m (0 ∷ 1 ∷ 2 ∷ 3 ∷ []) s t) w (subst (λ x. Acts x s t) e f) }

    go : (q : Bool) → eqb b 4 ≡ q → As (if q then OrHome (SubSp (stack_bytes n)) else This (SubSp (stack_bytes n))) a → Lowers (stack_bytes n) s t
    go true e (inl h) = plain h
    go true e (inr h) = homed (four (eqb-true b 4 e)) h
    go false e h = plain h

stored-lr : (n : ℕ) (a : Action) (s t : State) → a ≡ storing n → Acts a s t → Stores n (14 ∷ []) s t
stored-lr n a s t h f = go (eqb n 4) refl (subst (λ x. Acts x s t) h f)
  where
    go : (q : Bool) → eqb n 4 ≡ q → Acts (if q then Push (2 ^ 14) else Store 14 n) s t → Stores n (14 ∷ []) s t
    go true e g = subst (λ m. Stores m (14 ∷ []) s t) (sym (eqb-true n 4 e)) g
    go false e g = g

pub opening : (u : Undo) (first : ℕ) (a : Action) (s t : State) → ((n : StackWords) → first ≡ 4 → u ≡ Up n → n.0 ≡ 4) → As (acts_before first u) a → Acts a s t → Opening u s t
opening (Up n) b a s t h e f = lowered b n a s t (λ q. h n q refl) e f
opening (Pop l) b a s t h e f = subst (λ x. Acts x s t) e f
opening (SpFrom x) b a s t h e f = subst (λ y. Acts y s t) e f
opening (Vpop i j) b a s t h e f = subst (λ x. Acts x s t) e f
opening (LoadLr n) b a s t h e f = stored-lr (stack_bytes n) a s t e f
opening Nothing b a s t h e f = tt

-- ---- what it comes to where there is room
less-is : (a n : ℕ) → n ≤ a → a < 2 ^ 32 → less a n + n ≡ a
less-is a n h k = omega arith

falls_of : (n : ℕ) (xs : List ℕ) (s t : State) → Stores n xs s t → s.stack.base + n ≤ s.regs.sp → s.regs.sp < 2 ^ 32 → t.regs.sp + n ≡ s.regs.sp
falls_of n xs s t f h k = ap (λ a. a + n) f.sp ∙ less-is s.regs.sp n (omega arith) k

stored_of : (k : Lent) (a : ℕ) (xs : List ℕ) (g : Regs) → k.base ≤ a → a + bytes xs ≤ end k → Has k a xs g → Stored k a xs g
stored_of k a [] g b h f = tt
stored_of k a (x ∷ xs) g b h f =
    (f.0 (holding k a (width x) b (omega arith)), stored_of k (a + width x) xs g (omega arith) (omega arith) f.1)

pushed :
    (xs : List ℕ) (s t : State) → Stores (bytes xs) xs s t → s.stack.base + bytes xs ≤ s.regs.sp → s.regs.sp ≤ end s.stack → end s.stack < 2 ^ 32
    → Pushes xs s t
pushed xs s t f low high m =
    let z = falls_of (bytes xs) xs s t f low (omega arith) in
    let o = f.stack in
    record {
      falls = record { sp = z; rest = f.rest; stack = outside-more o (omega arith) (omega (arith, z)) };
      stored = stored_of t.stack t.regs.sp xs s.regs (omega (arith, z, o.base)) (omega (arith, z, o.base, o.long)) f.stored;
    }

pub does-of :
    (before : List Code) (u : Undo) (s t : State) → u ≢ Nothing → FineOne before u → Opening u s t
    → s.stack.base + falls u ≤ s.regs.sp
    → s.regs.sp ≤ end s.stack
    → end s.stack < 2 ^ 32
    → Does before u s t
does-of before (Up n) s t k fine f low high m =
    let z = falls_of (stack_bytes n) f.list s t f.stores low (omega arith) in
    record { sp = z; rest = f.stores.rest; stack = outside-more f.stores.stack (omega arith) (omega (arith, z, f.few)) }
does-of before (Pop l) s t k fine f low high m = pushed (saves (Pop l)) s t f low high m
does-of before (SpFrom x) s t k fine f low high m =
    let x13 : x ≢ 13 = fine.other in
    let x15 : x ≢ 15 = λ q. omega (arith, fine.named) in
    record {
      sp = f.rest 13 (λ q. x13 (sym q)) (λ q. omega arith);
      r_x = sym (all-value t.regs x x13 x15) ∙ f.taken x15;
      rest = moved-rest f;
      stack = f.stack;
      once = fine.once;
      saved = fine.saved;
    }
does-of before (Vpop a b) s t k fine f low high m = pushed (saves (Vpop a b)) s t f low high m
does-of before (LoadLr n) s t k fine f low high m =
    let z = falls_of (stack_bytes n) (14 ∷ []) s t f low (omega arith) in
    let o = f.stack in
    record {
      falls = record { sp = z; rest = f.rest; stack = outside-more o (omega arith) (omega arith) };
      stored = f.stored.0 (holding t.stack t.regs.sp 4 (omega (arith, z, o.base)) (omega (arith, z, o.base, o.long)));
      some = fine;
    }
does-of before Nothing s t k fine f low high m = absurd (k refl)

-- the stack stays where it is, wherever SP is
pub record Stays (s t : State) : Type 0 where
  pub base : t.stack.base ≡ s.stack.base
  pub long : length t.stack.bytes ≡ length s.stack.bytes

pub stays_same : {s t : State} → t.stack ≡ s.stack → Stays s t
stays_same e = record { base = ap (λ (k : Lent). k.base) e; long = ap (λ (k : Lent). length k.bytes) e }

stays-stores : {n : ℕ} {xs : List ℕ} {s t : State} → Stores n xs s t → Stays s t
stays-stores f = record { base = f.stack.base; long = f.stack.long }

pub stays-opening : (u : Undo) (s t : State) → u ≢ Nothing → Opening u s t → Stays s t
stays-opening (Up n) s t k f = stays-stores f.stores
stays-opening (Pop l) s t k f = stays-stores f
stays-opening (SpFrom x) s t k f = stays_same f.stack
stays-opening (Vpop a b) s t k f = stays-stores f
stays-opening (LoadLr n) s t k f = stays-stores f
stays-opening Nothing s t k f = absurd (k refl)

-- of an instruction that stands for its code
pub opened : (c : Coded) → Known c → (s : List ℕ) (o : ℕ) (a b : State) → Stands (item s o (opens c)) → Executes (instruction_at s o) a b → Opening c.code.undo a b
opened c k s o a b h x = opening c.code.undo c.first (instruction_at s o).action a b k.home h.does x.does
