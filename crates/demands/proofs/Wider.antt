-- Demand 1's heart: what is answered from some lent bytes, a refusal too unless it is of how much is lent, is answered from more of them
-- too, since no byte outside was read.
-- Assumes nothing.
use Rattle.std.specs.Prelude.{if◌then◌else◌, Ok, Option, None, Some}
use Prim.Native.Nat.{ℕ, zero, suc, ◌+◌, ◌-◌, ◌*◌, ◌%◌, ◌^◌, ◌≤◌, ◌<◌}
use mathlib.Core.Path.{◌≡◌, refl, ap, ap₂, ◌∙◌}
use mathlib.Core.List.{List, ◌++◌}
use mathlib.Core.Bool.{Bool, true, false, ◌&&◌}
use lib.ListN.{length, get_or, take, drop, length-append, length-drop, get_or-append}
use lib.Seq.{get_or-append-add, drop-append-add, drop-append-le, take-append-le}
use lib.Dec.{leb, ltb, eqb}
use native.Mathlib.Omega.{arith}
use borrow.Author.Tests.{leb-true, le-leb}
use Rattle.words.specs.Bits.{bits, bit, even}
use Rattle.lent.specs.Lent.{Lent, end, holds, word_at}
use Rattle.words.specs.Units.{code_word_bytes}
use Rattle.words.specs.declared.Refusal.TheVariants.{BadStack, OutsideXdata, Reserved, UnfitInput}
use Rattle.words.specs.Answer.{maybe}
use Rattle.unwinding.specs.CodeList.{run}
use Rattle.unwinding.specs.Shape.{Shape}
use Rattle.unwinding.specs.View.{view}
use Rattle.unwinding.specs.Todo.{todo}
use Rattle.unwinding.proofs.Staying.{Stays, stays-bind, stays-need, stays-test, stays-run}
use Rattle.codes.specs.Code.{size, codes_at}
use Rattle.codes.specs.Condition.{executing}
use Rattle.codes.specs.declared.Code.{Code}
use Rattle.codes.specs.declared.Undo.{Undo}
use Rattle.codes.specs.declared.Undo.TheVariants.{Up, Pop, SpFrom, Vpop, LoadLr, Nothing}
use Rattle.machine.specs.declared.Regs.{Regs}
use Rattle.machine.specs.Step.{stands, load, pop_reg, pop_d, pop, vpop, effect, step}
use Rattle.pdata.specs.declared.Entry.{Entry}
use Rattle.xdata.specs.declared.Head.{Head}
use Rattle.pdata.specs.Pdata.{find}
use Rattle.xdata.specs.Xdata.{X, fit_xdata, scope_count, codes_offset, handler_offset, record_bytes, short_head, long_head, head_at, xdata_size}
use Rattle.xdata.specs.Scopes.{scopes_at}
use Rattle.record.specs.Record.{full_of, full_shape, packed_shape, shape_at, shape_of}
use Rattle.xdata.proofs.Heads.{head_small}
use Rattle.words.proofs.Tests.{both}
use Rattle.unwinding.specs.declared.Scope.{Scope}
use Rattle.frame.specs.Frame.{Inputs, fit_stack, uncovered, within, by_record, frame_of}
use Rattle.demands.specs.Demand1.{More, Wider}

-- bytes that are lent lie between the ends
pub inside : (l : Lent) (a n : ℕ) → holds l a n ≡ true → (l.base ≤ a) × (a + n ≤ end l)
inside l a n h = let p = both (leb l.base a) (leb (a + n) (end l)) h in (leb-true _ _ p.0, leb-true _ _ p.1)

-- ---- bytes that are lent are lent in more
module _ (l l' : Lent) (m : More l l') where
  long : length l'.bytes ≡ length m.before + (length l.bytes + length m.after)
  long = ap length m.bytes ∙ length-append m.before (l.bytes ++ m.after) ∙ ap (λ n. length m.before + n) (length-append l.bytes m.after)

  pub more-low : l'.base ≤ l.base
  more-low = omega (arith, m.base)

  pub more-high : end l ≤ end l'
  more-high = omega (arith, m.base, long)

  byte : (i : ℕ) → i < length l.bytes → get_or l'.bytes (length m.before + i) 0 ≡ get_or l.bytes i 0
  byte i h =
      ap (λ (s : List ℕ). get_or s (length m.before + i) 0) m.bytes ∙ get_or-append-add m.before (l.bytes ++ m.after) i 0
      ∙ get_or-append l.bytes m.after 0 i h

  byte_at : (i i' : ℕ) → i' ≡ length m.before + i → i < length l.bytes → get_or l'.bytes i' 0 ≡ get_or l.bytes i 0
  byte_at i i' e h = ap (λ j. get_or l'.bytes j 0) e ∙ byte i h

  pub more-word : (a : ℕ) → l.base ≤ a → a + 4 ≤ end l → word_at l' a ≡ word_at l a
  more-word a lo hi =
      let i : ℕ = a - l.base in
      let i' : ℕ = a - l'.base in
      let b0 = byte_at i i' (omega (arith, m.base)) (omega arith) in
      let b1 = byte_at (i + 1) (i' + 1) (omega (arith, m.base)) (omega arith) in
      let b2 = byte_at (i + 2) (i' + 2) (omega (arith, m.base)) (omega arith) in
      let b3 = byte_at (i + 2 + 1) (i' + 2 + 1) (omega (arith, m.base)) (omega arith) in
      rw (b0, b1, b2, b3) refl

  pub more_bytes : (a n : ℕ) → l.base ≤ a → a + n ≤ end l → take n (drop (a - l'.base) l'.bytes) ≡ take n (drop (a - l.base) l.bytes)
  more_bytes a n lo hi =
      let o : ℕ = a - l.base in
      let e : a - l'.base ≡ length m.before + o = omega (arith, m.base) in
      let w : n ≤ length (drop o l.bytes) = omega (arith, length-drop o l.bytes) in
      ap₂ (λ i (s : List ℕ). take n (drop i s)) e m.bytes
      ∙ ap (take n) (drop-append-add m.before (l.bytes ++ m.after) o)
      ∙ ap (take n) (drop-append-le o l.bytes m.after (omega arith))
      ∙ take-append-le n (drop o l.bytes) m.after w

  pub more-holds : (a n : ℕ) → holds l a n ≡ true → holds l' a n ≡ true
  more-holds a n h =
      let p = inside l a n h in
      let lo : l'.base ≤ a = omega (arith, p.0, more-low) in
      let hi : a + n ≤ end l' = omega (arith, p.1, more-high) in
      rw (le-leb _ _ lo, le-leb _ _ hi) refl

-- ---- the stack
module _ (k k' : Lent) (m : More k k') where
  more-stands : (a : ℕ) → stands k a ≡ true → stands k' a ≡ true
  more-stands a h =
      let p = both (eqb (a % 4) 0 && leb k.base a && leb a (end k)) (ltb a (2 ^ 32)) h in
      let q = both (eqb (a % 4) 0 && leb k.base a) (leb a (end k)) p.0 in
      let r = both (eqb (a % 4) 0) (leb k.base a) q.0 in
      let lo : k'.base ≤ a = omega (arith, leb-true k.base a r.1, more-low k k' m) in
      let hi : a ≤ end k' = omega (arith, leb-true a (end k) q.1, more-high k k' m) in
      rw (r.0, le-leb k'.base a lo, le-leb a (end k') hi, p.1) refl

  stays-load : (a : ℕ) → Stays (load k a) (load k' a)
  unfolding load
  stays-load a =
      stays-need (holds k a 4) (holds k' a 4) BadStack (Ok (word_at k a)) (Ok (word_at k' a)) refl (more-holds k k' m a 4)
      (λ h q. let p = inside k a 4 h in ap Ok (more-word k k' m a p.0 p.1))

  stays-pop_reg : (x : ℕ) (g : Regs) → Stays (pop_reg k x g) (pop_reg k' x g)
  unfolding pop_reg
  stays-pop_reg x g = stays-bind (load k g.sp) (load k' g.sp) _ _ (stays-load g.sp) (λ w p e. refl)

  stays-pop_d : (x : ℕ) (g : Regs) → Stays (pop_d k x g) (pop_d k' x g)
  unfolding pop_d
  stays-pop_d x g =
      stays-bind (load k g.sp) (load k' g.sp) _ _ (stays-load g.sp)
      (λ w p. stays-bind (load k (g.sp + 4)) (load k' (g.sp + 4)) _ _ (stays-load (g.sp + 4)) (λ v q e. refl))

  stays-if : (b : Bool) (x : ℕ) (g : Regs) → Stays (if b then pop_reg k x g else Ok g) (if b then pop_reg k' x g else Ok g)
  stays-if true x g = stays-pop_reg x g
  stays-if false x g = λ e. refl

  stays-pop : (l n : ℕ) (g : Regs) → Stays (pop k l n g) (pop k' l n g)
  unfolding pop
  stays-pop l zero g = λ e. refl
  stays-pop l (suc n) g = stays-bind (pop k l n g) (pop k' l n g) _ _ (stays-pop l n g) (λ h p. stays-if (bit n l) n h)

  stays-vpop : (x n : ℕ) (g : Regs) → Stays (vpop k x n g) (vpop k' x n g)
  unfolding vpop
  stays-vpop x zero g = λ e. refl
  stays-vpop x (suc n) g = stays-bind (vpop k x n g) (vpop k' x n g) _ _ (stays-vpop x n g) (λ h p. stays-pop_d (x + n) h)

  stays-effect : (u : Undo) (g : Regs) → Stays (effect k u g) (effect k' u g)
  stays-effect (Up n) g = λ e. refl
  stays-effect (Pop l) g = stays-pop l 15 g
  stays-effect (SpFrom x) g = λ e. refl
  stays-effect (Vpop s e) g = stays-vpop s (e + 1 - s) g
  stays-effect (LoadLr n) g = stays-bind (load k g.sp) (load k' g.sp) _ _ (stays-load g.sp) (λ w p e. refl)
  stays-effect Nothing g = λ e. refl

  stays_step : (c : Code) (g : Regs) → Stays (step k c g) (step k' c g)
  unfolding step
  stays_step c g =
      stays-bind (effect k c.undo g) (effect k' c.undo g) _ _ (stays-effect c.undo g)
      (λ h p. stays-need (stands k h.sp) (stands k' h.sp) BadStack _ _ refl (more-stands h.sp) (λ q e. refl))

  stays_within : (s : Shape) (o : ℕ) (g : Regs) → Stays (within k s o g) (within k' s o g)
  unfolding within
  stays_within s o g =
      stays-bind (view size codes_at s) (view size codes_at s) _ _ (λ e. refl)
      (λ v p. stays-bind (todo size executing v o) (todo size executing v o) _ _ (λ e. refl)
      (λ t q. stays-bind (run (step k) t.codes g) (run (step k') t.codes g) _ _ (stays-run (step k) (step k') stays_step t.codes g)
      (λ h r e. refl)))

-- ---- the .xdata
module _ (x x' : Lent) (m : More x x') where
  stays-long : (a w : ℕ) → Stays (long_head x a w) (long_head x' a w)
  unfolding long_head
  stays-long a w =
      stays-need (holds x a 8) (holds x' a 8) OutsideXdata _ _ refl (more-holds x x' m a 8)
      (λ h. let p = inside x a 8 h in
      let e : word_at x' (a + 4) ≡ word_at x (a + 4) = more-word x x' m (a + 4) (omega (arith, p.0)) (omega (arith, p.1)) in
      rw e (λ q. refl))

  stays-kind : (t : Bool) (a w : ℕ) → Stays (if t then long_head x a w else Ok (short_head w)) (if t then long_head x' a w else Ok (short_head w))
  stays-kind true a w = stays-long a w
  stays-kind false a w = λ e. refl

  pub stays-head : (a : ℕ) → Stays (head_at x a) (head_at x' a)
  unfolding head_at
  stays-head a =
      stays-need (holds x a 4) (holds x' a 4) OutsideXdata _ _ refl (more-holds x x' m a 4)
      (λ h. let p = inside x a 4 h in
      let e : word_at x' a ≡ word_at x a = more-word x x' m a p.0 p.1 in
      rw e
      (stays-test (eqb (bits 18 2 (word_at x a)) 0) Reserved _ _
      (λ q. stays-bind (if eqb (bits 23 9 (word_at x a)) 0 then long_head x a (word_at x a) else Ok (short_head (word_at x a))) (if eqb (bits 23 9 (word_at x a)) 0 then long_head x' a (word_at x a) else Ok (short_head (word_at x a))) _ _ (stays-kind (eqb (bits 23 9 (word_at x a)) 0) a (word_at x a))
      (λ g r. stays-need (holds x a (record_bytes g)) (holds x' a (record_bytes g)) OutsideXdata _ _ refl (more-holds x x' m a (record_bytes g)) (λ s z. refl)))))

  pub stays-size : (a : ℕ) → fit_xdata x' ≡ true → Stays (xdata_size x a) (xdata_size x' a)
  unfolding xdata_size
  stays-size a f =
      stays-need (fit_xdata x) (fit_xdata x') UnfitInput _ _ refl (λ q. f)
      (λ q. stays-bind (head_at x (a - a % 4)) (head_at x' (a - a % 4)) _ _ (stays-head (a - a % 4)) (λ h p e. refl))

  same-scopes : (n a : ℕ) → x.base ≤ a → a + 4 * n ≤ end x → scopes_at x' a n ≡ scopes_at x a n
  unfolding scopes_at
  same-scopes zero a lo hi = refl
  same-scopes (suc n) a lo hi =
      let e : word_at x' a ≡ word_at x a = more-word x x' m a lo (omega arith) in
      let r = same-scopes n (a + 4) (omega arith) (omega arith) in
      rw (e, r) refl

  same-handler : (t : Bool) (a : ℕ) → x.base ≤ a → a + (if t then 4 else 0) ≤ end x → (if t then word_at x' a else 0) ≡ (if t then word_at x a else 0)
  same-handler true a lo hi = more-word x x' m a lo hi
  same-handler false a lo hi = refl

  same_full : (a : ℕ) (h : Head) (listed : List Scope) → x.base ≤ a → a + record_bytes h ≤ end x → full_of x' a h listed ≡ full_of x a h listed
  same_full a h listed lo hi =
      let c = more_bytes x x' m (a + codes_offset h) (code_word_bytes h.codewords).0 (omega arith) (omega arith) in
      let r = same-handler (X h) (a + handler_offset h) (omega arith) (omega arith) in
      rw (c, r) refl

  stays-full : (a : ℕ) → Stays (full_shape x a) (full_shape x' a)
  unfolding full_shape
  stays-full a =
      stays-bind (head_at x a) (head_at x' a) _ _ (stays-head a)
      (λ h p. let w = inside x a (record_bytes h) (head_small x a h p).lent in
      let s = same-scopes (scope_count h) (a + h.bytes) (omega (arith, w.0)) (omega (arith, w.1)) in
      stays-bind (scopes_at x (a + h.bytes) (scope_count h)) (scopes_at x' (a + h.bytes) (scope_count h)) _ _ (λ e. s)
      (λ l q e. ap Ok (same_full a h l w.0 w.1)))

  pub stays_at : (w : ℕ) → Stays (shape_at x w) (shape_at x' w)
  stays_at w = go (eqb (bits 0 2 w) 0)
    where
      go : (t : Bool) → Stays (if t then full_shape x w else packed_shape w) (if t then full_shape x' w else packed_shape w)
      go true = stays-full w
      go false = λ q. refl

-- ---- one frame
module _ (t t' : Inputs) (w : Wider t t') (first : Bool) where
  stays-covered : (b : Bool) (s : Shape) (o : ℕ) (g : Regs) → Stays (if b then within t.stack s o g else uncovered first g) (if b then within t'.stack s o g else uncovered first g)
  stays-covered true s o g = stays_within t.stack t'.stack w.stack s o g
  stays-covered false s o g = λ e. refl

  stays-record : (e : Entry) (g : Regs) → Stays (by_record first t e g) (by_record first t' e g)
  unfolding by_record
  stays-record e g =
      rw w.image
      (stays-bind (shape_of t.xdata e) (shape_of t'.xdata e) _ _ (stays_at t.xdata t'.xdata w.xdata e.word)
      (λ s p. stays-covered (ltb (even g.pc - t.image - e.start) s.span) s (even g.pc - t.image - e.start) g))

  stays-found : (e : Option Entry) (g : Regs) → Stays (maybe e (uncovered first g) (λ e. by_record first t e g)) (maybe e (uncovered first g) (λ e. by_record first t' e g))
  stays-found None g = λ e. refl
  stays-found (Some e) g = stays-record e g

  pub stays-frame : (g : Regs) → Stays (frame_of first t g) (frame_of first t' g)
  unfolding frame_of
  stays-frame g =
      stays-need (fit_stack t.stack && fit_xdata t.xdata) (fit_stack t'.stack && fit_xdata t'.xdata) UnfitInput _ _ refl (λ q. w.fit)
      (λ q. stays-bind (find t.image t.pdata g.pc) (find t'.image t'.pdata g.pc) _ _ (λ e. rw (w.image, w.pdata) refl)
      (λ e p. stays-need (stands t.stack g.sp) (stands t'.stack g.sp) BadStack _ _ refl (more-stands t.stack t'.stack w.stack g.sp)
      (λ r. stays-found e g)))
