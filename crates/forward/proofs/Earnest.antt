-- The conditions met in earnest: a body that overwrites what was saved and its own words, a sub that writes what SP falls over, nops
-- that write what they may, SP moved before the epilogue; and the handler that the answer has.
-- Assumes nothing.
use Rattle.std.specs.Prelude.{if◌then◌else◌, Ok, Some}
use Prim.Native.Nat.{ℕ, ◌+◌, ◌-◌, ◌*◌, ◌^◌, ◌≤◌, ◌<◌}
use mathlib.Core.Path.{◌≡◌, refl, sym, ap, ap₂, ◌∙◌, subst}
use mathlib.Core.Bool.{Bool, true, false}
use mathlib.Core.List.{List, [], ◌∷◌}
use mathlib.Core.Logic.{◌≢◌, inl, inr}
use lib.Dec.{ltb, eqb}
use lib.ListN.{length}
use native.Mathlib.Omega.{arith}
use borrow.Author.Tests.{ltb-true, eqb-false}
use Rattle.lent.specs.Lent.{Lent, end, word_at}
use Rattle.words.specs.declared.Place.{Place}
use Rattle.words.specs.declared.Place.TheVariants.{Prologue, Body, Epilogue}
use Rattle.unwinding.specs.Shape.{Shape}
use Rattle.unwinding.specs.View.{View}
use Rattle.codes.specs.declared.Code.{Code}
use Rattle.machine.specs.Registers.{set_reg, set_sp}
use Rattle.pdata.specs.Pdata.{find}
use Rattle.record.specs.Record.{shape_of}
use Rattle.pdata.specs.declared.Entry.{Entry}
use Rattle.frame.specs.Frame.{Inputs}
use Rattle.frame.specs.declared.Unwound.{Unwound}
use Rattle.frame.proofs.Opened.{opened}
use Rattle.forward.specs.Registers.{value, width, held}
use Rattle.forward.specs.Saving.{saves, falls, RX}
use Rattle.forward.specs.State.{Whole, State, Outside}
use Rattle.forward.specs.Prologue.{Does, Done, none, next}
use Rattle.forward.specs.Body.{Holds, Words, Wanted}
use Rattle.forward.specs.Body as Kept
use Rattle.forward.specs.Epilogue.{Ran}
use Rattle.forward.specs.Epilogue as Leaving
use Rattle.unwinding.specs.Listed.{here}
use Rattle.forward.specs.Epilogues.{full, packed}
use Rattle.forward.specs.Stop.{codes_of, Past}
use Rattle.forward.specs.Demand.{lending, Asked, Demand3}
use Rattle.forward.specs.Met.{Plain, Reaches, At, Went, stays}
use Rattle.forward.proofs.Ops.{upd, upd-cases}
use Rattle.forward.proofs.Steps.{done-fits}
use Rattle.forward.proofs.Memory.{outside_above, outside_below, outside-same, outside-then, outside-more}
use Rattle.forward.proofs.Writing.{whole_reg, value-reg}
use Rattle.forward.proofs.Framed.{answer, demand3}
use Rattle.forward.proofs.Storing.{store, store-outside, word-store}
use Rattle.forward.proofs.Real.{Solid, set-real, set-sp-real, store-real}
use Rattle.forward.proofs.Executing.{standing, done-place, after, after-solid}
use Rattle.forward.proofs.Reaching.{words_same, idle, solid-of, plain_of, stood, less-room, met}
use Rattle.forward.proofs.Examples.{Tables, inputs, own, shape, views, known, Entered, in-onward, in-used, in-leaving, prologue-run, up2, up4, nop, nop1, pop45lr, pop4511lr, pop4to9lr, sp_r7, rx7, plain, homes, chain, framed, handles}

-- ---- a register written
abbrev writes : (x v : ℕ) → State → State
writes x v s =
    let w : Whole (set_reg s.regs x v) = whole_reg x v s.whole in
    record { regs = set_reg s.regs x v; stack = s.stack; whole = record { r = w.r; d = w.d } }

-- r0-r12 or LR
abbrev Integer : ℕ → Type 0
Integer x = (ltb x 15 ≡ true) × (eqb x 13 ≡ false)

written : (x v : ℕ) (s : State) → Integer x → value (set_reg s.regs x v) ≡ upd (value s.regs) x v
written x v s i = value-reg s.regs x v s.whole (ltb-true x 15 i.0) (eqb-false x 13 i.1)

writes-same : (x v : ℕ) (s : State) (y : ℕ) → Integer x → y ≢ x → value (set_reg s.regs x v) y ≡ value s.regs y
writes-same x v s y i q =
    ap (λ f. f y) (written x v s i) ∙ upd-cases (λ z. z ≡ value s.regs y) (value s.regs) x v y (λ p. absurd (q p)) (λ p. refl)

writes-it : (x v : ℕ) (s : State) → Integer x → value (set_reg s.regs x v) x ≡ v
writes-it x v s i = ap (λ f. f x) (written x v s i) ∙ upd-cases (λ z. z ≡ v) (value s.regs) x v x (λ p. refl) (λ p. absurd (p refl))

-- ---- SP lowered
abbrev lowered : ℕ → State → State
lowered n s =
    let w : Whole s.regs = s.whole in
    record { regs = set_sp s.regs (s.regs.sp - n); stack = s.stack; whole = record { r = w.r; d = w.d } }

-- ---- two words written at SP
abbrev puts : (w₀ w₁ : ℕ) → State → State
puts w₀ w₁ s =
    let w : Whole s.regs = s.whole in
    record { regs = s.regs; stack = store (store s.stack s.regs.sp w₀) (s.regs.sp + 4) w₁; whole = record { r = w.r; d = w.d } }

-- they stand there
abbrev pub AtSp : (w₀ w₁ : ℕ) → State → Type 0
AtSp w₀ w₁ s = (word_at s.stack s.regs.sp ≡ w₀) × (word_at s.stack (s.regs.sp + 4) ≡ w₁)

record Put (w₀ w₁ : ℕ) (s : State) : Type 0 where
  outside : Outside s.regs.sp (s.regs.sp + 8) s.stack (puts w₀ w₁ s).stack
  held : AtSp w₀ w₁ (puts w₀ w₁ s)

put : (w₀ w₁ : ℕ) (s : State) → s.stack.base ≤ s.regs.sp → s.regs.sp + 8 ≤ end s.stack → Put w₀ w₁ s
put w₀ w₁ s b h =
    let a : ℕ = s.regs.sp in
    let k : Lent = store s.stack a w₀ in
    let o = store-outside s.stack a w₀ b in
    let p = store-outside k (a + 4) w₁ (omega arith) in
    record {
      outside = outside-then o p (omega arith) (omega arith) (omega arith) (omega arith);
      held = (outside_below p a b (omega arith) ∙ word-store s.stack a w₀ b (omega arith), word-store k (a + 4) w₁ (omega arith) (omega (arith, o.long)));
    }

puts-bytes : (w₀ w₁ : ℕ) (s : State) → Solid s.regs s.stack → w₀ < 2 ^ 32 → w₁ < 2 ^ 32 → Solid s.regs (puts w₀ w₁ s).stack
puts-bytes w₀ w₁ s x b₀ b₁ =
    let a : ℕ = s.regs.sp in
    record { real = x.real; bytes = store-real (store s.stack a w₀) (a + 4) w₁ (store-real s.stack a w₀ x.bytes b₀) b₁; sp = x.sp }

-- what stands above the written words is kept
held-above : {lo hi : ℕ} {k k' : Lent} → Outside lo hi k k' → (a x : ℕ) → hi ≤ a → held k' a x ≡ held k a x
held-above {lo} {hi} {k} {k'} o a x h = go (ltb x 16)
  where
    go : (t : Bool) → (if t then word_at k' a else word_at k' a + 2 ^ 32 * word_at k' (a + 4)) ≡ (if t then word_at k a else word_at k a + 2 ^ 32 * word_at k (a + 4))
    go true = outside_above o a h
    go false = ap₂ (λ v w. v + 2 ^ 32 * w) (outside_above o a h) (outside_above o (a + 4) (omega arith))

holds-above : (of : ℕ → Type 0) {lo hi : ℕ} {k k' : Lent} → Outside lo hi k k' → (a : ℕ) (xs : List ℕ) → hi ≤ a → Holds of k k' a xs
holds-above of o a [] h = tt
holds-above of o a (x ∷ xs) h = (λ q. held-above o a x h, holds-above of o (a + width x) xs (omega arith))

words-above : (of : ℕ → Type 0) {lo hi : ℕ} {k k' : Lent} → Outside lo hi k k' → (a : ℕ) (cs : List Code) → hi ≤ a → Words of k k' a cs
words-above of o a [] h = tt
words-above of o a (c ∷ cs) h = (holds-above of o a (saves c.undo) h, words-above of o (a + falls c.undo) cs (omega arith))

-- ---- a body that overwrites r4, r5, LR and its two words
abbrev pub cs : List Code
cs = up2 ∷ pop45lr ∷ []

-- no rX
no-r_x : (x : ℕ) → RX cs x → ⊥
no-r_x x (inl q) = q
no-r_x x (inr (inl q)) = q
no-r_x x (inr (inr q)) = q

pub record Values : Type 0 where
  pub r₄ : ℕ
  pub r₅ : ℕ
  pub lr : ℕ
  pub w₀ : ℕ
  pub w₁ : ℕ

pub record Small (v : Values) : Type 0 where
  pub r₄ : v.r₄ < 2 ^ 32
  pub r₅ : v.r₅ < 2 ^ 32
  pub lr : v.lr < 2 ^ 32
  pub w₀ : v.w₀ < 2 ^ 32
  pub w₁ : v.w₁ < 2 ^ 32

abbrev pub Has : Values → State → Type 0
Has v s = (value s.regs 4 ≡ v.r₄) × (value s.regs 5 ≡ v.r₅) × (value s.regs 14 ≡ v.lr) × AtSp v.w₀ v.w₁ s

abbrev overwrites : Values → State → State
overwrites v s = puts v.w₀ v.w₁ (writes 14 v.lr (writes 5 v.r₅ (writes 4 v.r₄ s)))

has : (v : Values) (s : State) (pc : ℕ) → s.stack.base ≤ s.regs.sp → s.regs.sp + 8 ≤ end s.stack → Has v (standing pc (overwrites v s))
has v s pc b h =
    let s₁ : State = writes 4 v.r₄ s in
    let s₂ : State = writes 5 v.r₅ s₁ in
    let s₃ : State = writes 14 v.lr s₂ in
    let p = put v.w₀ v.w₁ s₃ b h in (
      writes-same 14 v.lr s₂ 4 (refl, refl) (eqb-false 4 14 refl)
          ∙ writes-same 5 v.r₅ s₁ 4 (refl, refl) (eqb-false 4 5 refl) ∙ writes-it 4 v.r₄ s (refl, refl),
      writes-same 14 v.lr s₂ 5 (refl, refl) (eqb-false 5 14 refl) ∙ writes-it 5 v.r₅ s₁ (refl, refl),
      writes-it 14 v.lr s₂ (refl, refl),
      p.held,
    )

overwritten : (v : Values) (s : State) (pc : ℕ) → s.stack.base ≤ s.regs.sp → s.regs.sp + 8 ≤ end s.stack → Kept.Body cs s (standing pc (overwrites v s))
overwritten v s pc b h =
    let s₁ : State = writes 4 v.r₄ s in
    let s₂ : State = writes 5 v.r₅ s₁ in
    let s₃ : State = writes 14 v.lr s₂ in
    let o = (put v.w₀ v.w₁ s₃ b h).outside in
    record {
      base = refl;
      long = o.long;
      words = (tt, words-above (Wanted cs) o (s.regs.sp + 8) (pop45lr ∷ []) (omega arith));
      sp = refl;
      r_x = λ x q. absurd (no-r_x x q);
      unsaved = λ x l n.
          writes-same 14 v.lr s₂ x (refl, refl) (λ q. n (inr (inl (inr (inr (inl q))))))
          ∙ writes-same 5 v.r₅ s₁ x (refl, refl) (λ q. n (inr (inl (inr (inl q)))))
          ∙ writes-same 4 v.r₄ s x (refl, refl) (λ q. n (inr (inl (inl q))));
    }

overwritten-plain : (v : Values) (e : State) (pc : ℕ) → Small v → pc < 2 ^ 32 → Plain e → Plain (standing pc (overwrites v (after cs e)))
overwritten-plain v e pc m b w =
    let s : State = after cs e in
    let y = after-solid e cs (solid-of w) in
    let s₃ : State = writes 14 v.lr (writes 5 v.r₅ (writes 4 v.r₄ s)) in
    let r = set-real 14 v.lr (set-real 5 v.r₅ (set-real 4 v.r₄ y.real m.r₄) m.r₅) m.lr in
    plain_of (stood pc (puts-bytes v.w₀ v.w₁ s₃ (record { real = r; bytes = y.bytes; sp = y.sp }) m.w₀ m.w₁)) b

overwritten-past : (v : Values) (e : State) → Entered e → (pc : ℕ) → (Past cs e (standing pc (overwrites v (after cs e)))) × Has v (standing pc (overwrites v (after cs e)))
overwritten-past v e h pc =
    let d = prologue-run plain e h cs (tt, (tt, tt)) (omega arith) in
    let p = done-place d in
    let low : (after cs e).stack.base ≤ (after cs e).regs.sp = omega (arith, p.sp, p.base, h.roomy.low) in
    let high : (after cs e).regs.sp + 8 ≤ end (after cs e).stack = omega (arith, p.sp, p.base, p.long, h.roomy.high) in
    (record { left = after cs e; done = d; stays = low; keeps = overwritten v (after cs e) pc low high }, has v (after cs e) pc low high)

pub plain-6-used : (e : State) (v : Values) → Small v → Entered e → (r : Reaches (inputs plain) e 6 Body cs) × Has v r.now
unfolding opened
plain-6-used e v m h =
    let p = overwritten-past v e h 0x00401006 in
    let r = in-used plain e h 6 (standing 0x00401006 (overwrites v (after cs e))) refl (inl (omega arith), tt) (omega arith) p.0 refl
    (overwritten-plain v e 0x00401006 m (omega arith)) in
    (r.0, subst (Has v) (sym r.1) p.1)

-- a boundary of an epilogue, reached by these instructions from a state
abbrev pub From : Tables → (e start : State) → ℕ → (more undone : List Code) → Type 0
From k e start o more undone = (r : Reaches (inputs k) e o Epilogue undone) × Ran (RX (codes_of (views k))) more start r.now

-- and its epilogue
pub plain-1E-used :
    (e : State) (v : Values) → Small v → Entered e
    → (start : State) × Has v start × From plain e start 0x1E (up2 ∷ []) (pop45lr ∷ [])
unfolding opened
plain-1E-used e v m h =
    let p = overwritten-past v e h 0x0040101C in
    let start : State = standing 0x0040101C (overwrites v (after cs e)) in
    let r = in-leaving plain e h start start [] (up2 ∷ []) (pop45lr ∷ []) refl here (packed (λ q. omega arith) (λ d. refl)) refl refl (omega arith) p.0
    Leaving.none refl (overwritten-plain v e 0x0040101C m (omega arith)) in
    (start, p.1, r)

-- ---- a sub that writes what SP falls over
pub plain-4-wrote : (e : State) (w₀ w₁ : ℕ) → w₀ < 2 ^ 32 → w₁ < 2 ^ 32 → Entered e → (r : Reaches (inputs plain) e 4 Body cs) × AtSp w₀ w₁ r.now
unfolding opened
plain-4-wrote e w₀ w₁ b₀ b₁ h =
    let s : State = after (pop45lr ∷ []) e in
    let d = prologue-run plain e h (pop45lr ∷ []) (tt, tt) (omega arith) in
    let p = done-place d in
    let left : State = puts w₀ w₁ (lowered 8 s) in
    let q = put w₀ w₁ (lowered 8 s) (omega (arith, p.sp, p.base, h.roomy.low)) (omega (arith, p.sp, p.base, p.long, h.roomy.low, h.roomy.high)) in
    let done : Done e cs left = next {t = left} up2 d (record {
      sp = omega (arith, p.sp, h.roomy.low);
      rest = record { r = refl; lr = refl; d = refl };
      stack = outside-more q.outside (omega arith) (omega (arith, p.sp, h.roomy.low));
    }) in
    let low : left.stack.base ≤ left.regs.sp = omega (arith, p.sp, p.base, h.roomy.low) in
    let r = in-used plain e h 4 (standing 0x00401004 left) refl (inl (omega arith), tt) (omega arith)
    (record { left = left; done = done; stays = low; keeps = idle cs left 0x00401004 (done-fits done h.roomy.aligned).1 low })
    refl
    (λ w.
    let y = after-solid e (pop45lr ∷ []) (solid-of w) in
    plain_of (stood 0x00401004 (puts-bytes w₀ w₁ (lowered 8 s) (record { real = set-sp-real (s.regs.sp - 8) y.real; bytes = y.bytes; sp = omega (arith, y.sp) }) b₀ b₁)) (omega arith)) in
    (r.0, subst (AtSp w₀ w₁) (sym r.1) q.held)

-- the home words: whatever the first instruction wrote there, the push after it
pub homes-4-from :
    (e mid : State) → Entered e → Does [] up4.undo e mid → mid.regs.pc ≡ 0x00401002 → (Plain e → Plain mid)
    → (r : Reaches (inputs homes) e 4 Prologue (pop45lr ∷ up4 ∷ [])) × Went (up4 ∷ []) mid (pop45lr ∷ []) r.now
unfolding opened
homes-4-from e mid h d z w =
    in-onward homes e h mid (up2 ∷ []) (pop45lr ∷ []) (up4 ∷ []) refl refl (tt, (tt, tt)) (omega arith) (next up4 none d) (omega arith) w

-- ---- nops: one of the prologue sets r11, which is saved before
went-none : {before : List Code} {s t : State} → Went before s [] t → t ≡ s
went-none stays = refl

pub chain-8-set :
    (e : State) (v : ℕ) → v < 2 ^ 32 → Entered e
    → (r : Reaches (inputs chain) e 8 Prologue (nop ∷ pop4511lr ∷ [])) × (value r.now.regs 11 ≡ v)
unfolding opened
chain-8-set e v b h =
    let s : State = after (pop4511lr ∷ []) e in
    let mid : State = standing 0x00401008 (writes 11 v s) in
    let d = prologue-run chain e h (pop4511lr ∷ []) (tt, tt) (omega arith) in
    let r = in-onward chain e h mid (up2 ∷ []) [] (nop ∷ pop4511lr ∷ []) refl refl (tt, (tt, tt)) (omega arith)
    (next nop d (record {
      stack = refl;
      sp = refl;
      r_x = λ x q. absurd (no x q);
      unsaved = λ x l z. writes-same 11 v s x (refl, refl) (λ q. z (inl (inr (inr (inl q)))));
    }))
    refl
    (λ w.
    let y = after-solid e (pop4511lr ∷ []) (solid-of w) in
    plain_of (stood 0x00401008 (record { real = set-real 11 v y.real b; bytes = y.bytes; sp = y.sp })) (omega arith)) in
    (r.0, subst (λ (t : State). value t.regs 11 ≡ v) (sym (went-none r.1)) (writes-it 11 v s (refl, refl)))
  where
    no : (x : ℕ) → RX (pop4511lr ∷ []) x → ⊥
    no x (inl q) = q
    no x (inr q) = q

-- one of an epilogue sets r12
abbrev pub idles : Tables
idles = record { word = 0x00003000; xdata = (0x10200010 ∷ 0xFDD502FB ∷ []) }

ran-none : {r_x : ℕ → Type 0} {s t : State} → Ran r_x [] s t → t ≡ s
ran-none Leaving.none = refl

pub idles-1A-set : (e : State) (v : ℕ) → v < 2 ^ 32 → Entered e → (r : Reaches (inputs idles) e 0x1A Epilogue cs) × (value r.now.regs 12 ≡ v)
unfolding opened
idles-1A-set e v b h =
    let list : List Code = nop1 ∷ cs in
    let left : State = after list e in
    let start : State = standing 0x00401018 left in
    let mid : State = standing 0x0040101A (writes 12 v start) in
    let d = prologue-run idles e h list (tt, (tt, (tt, tt))) (omega arith) in
    let p = done-place d in
    let low : left.stack.base ≤ left.regs.sp = omega (arith, p.sp, p.base, h.roomy.low) in
    let r = in-leaving idles e h start mid (nop1 ∷ []) [] cs refl here (full refl refl) refl refl (omega arith)
    (record { left = left; done = d; stays = low; keeps = idle list left 0x00401018 (done-fits d h.roomy.aligned).1 low })
    (Leaving.next nop1 (record { sp = refl; rest = λ x z. writes-same 12 v start x (refl, refl) (λ q. z (inr q, λ i. no x i)); stack = refl }) Leaving.none)
    refl
    (λ w.
    let y = after-solid e list (solid-of w) in
    plain_of (stood 0x0040101A (record { real = set-real 12 v (stood 0x00401018 y).real b; bytes = y.bytes; sp = y.sp })) (omega arith)) in
    (r.0, subst (λ (t : State). value t.regs 12 ≡ v) (sym (ran-none r.1)) (writes-it 12 v start (refl, refl)))
  where
    no : (x : ℕ) → RX (nop1 ∷ cs) x → ⊥
    no x (inl q) = q
    no x (inr q) = no-r_x x q

-- ---- SP four words lower after mov r7,sp: in the body, and in the epilogue after mov sp,r7
abbrev pub moving : List Code
moving = sp_r7 ∷ pop4to9lr ∷ up4 ∷ []

abbrev moved : (pc : ℕ) → State → State
moved pc e = standing pc (lowered 16 (after moving e))

moved-past : (e : State) → Entered e → (pc : ℕ) → (Past moving e (moved pc e)) × ((moved pc e).regs.sp + 60 ≡ e.regs.sp)
moved-past e h pc =
    let left : State = after moving e in
    let d = prologue-run framed e h moving (rx7, (tt, (tt, tt))) (omega arith) in
    let p = done-place d in
    let fits = done-fits d h.roomy.aligned in
    let low : left.stack.base ≤ left.regs.sp = omega (arith, p.sp, p.base, h.roomy.low) in (
      record {
        left = left;
        done = d;
        stays = low;
        keeps = record {
          base = refl;
          long = refl;
          words = words_same (Wanted moving) left.stack left.regs.sp moving;
          sp = (omega (arith, fits.1, p.sp, p.base, h.roomy.low), omega (arith, p.sp, p.base, h.roomy.low), omega arith);
          r_x = λ x q. refl;
          unsaved = λ x q z. refl;
        };
      },
      omega (arith, p.sp, p.base, h.roomy.low),
    )

moved_plain : (e : State) (pc : ℕ) → pc < 2 ^ 32 → Plain e → Plain (moved pc e)
moved_plain e pc b w =
    let s : State = after moving e in
    let y = after-solid e moving (solid-of w) in
    plain_of (stood pc (record { real = set-sp-real (s.regs.sp - 16) y.real; bytes = y.bytes; sp = omega (arith, y.sp) })) b

pub framed-A-moved : (e : State) → Entered e → (r : Reaches (inputs framed) e 0xA Body moving) × (r.now.regs.sp + 60 ≡ e.regs.sp)
unfolding opened
framed-A-moved e h =
    let p = moved-past e h 0x0040100A in
    let r = in-used framed e h 0xA (moved 0x0040100A e) refl (inl (omega arith), tt) (omega arith) p.0 refl (moved_plain e 0x0040100A (omega arith)) in
    (r.0, subst (λ (t : State). t.regs.sp + 60 ≡ e.regs.sp) (sym r.1) p.1)

pub framed-142-moved :
    (e : State) → Entered e
    → (start : State) × (start.regs.sp + 60 ≡ e.regs.sp) × From framed e start 0x142 (sp_r7 ∷ []) (pop4to9lr ∷ up4 ∷ [])
unfolding opened
framed-142-moved e h =
    let p = moved-past e h 0x00401140 in
    let r = in-leaving framed e h (moved 0x00401140 e) (moved 0x00401140 e) [] (sp_r7 ∷ []) (pop4to9lr ∷ up4 ∷ []) refl here (full refl refl) refl refl (omega arith) p.0
    Leaving.none refl (moved_plain e 0x00401140 (omega arith)) in
    (moved 0x00401140 e, p.1, r)

-- ---- the answer has the handler's RVA: demand 3 at a record with X=1
-- the record is the tables' one
shape_at :
    {t : Inputs} {own : Entry} {s : Shape} {v : View Code} {pc o : ℕ} (e now : State) → At t own s v pc o → (a : Asked (lending t now.stack) e now)
    → now.regs.pc ≡ pc
    → a.shape ≡ s
shape_at {t} {own} {s} e now h a z =
    let p : Ok (Some a.own) ≡ Ok (Some own) = sym a.found ∙ ap (find t.image t.pdata) z ∙ h.found in
    let q : a.own ≡ own = cc in
    let r : Ok a.shape ≡ Ok s = sym a.passes4-5 ∙ ap (shape_of t.xdata) q ∙ h.passes4-5 in
    cc

told_as :
    (u : Unwound) {p p' : Place} {h h' : ℕ} {cs cs' : List Code} → u.told ≡ Ok (record { place = p; handler = h; codes = length cs })
    → p ≡ p'
    → h ≡ h'
    → cs ≡ cs'
    → u.told ≡ Ok (record { place = p'; handler = h'; codes = length cs' })
told_as u q p h cs = rw (← p, ← h, ← cs) q

pub handles-4-handler :
    (e : State) → Entered e
    → (r : Reaches (inputs handles) e 4 Body cs) × ((answer (lending (inputs handles) r.now.stack) r.now.regs).told ≡ Ok (record { place = Body; handler = 0x5678; codes = length cs }))
unfolding opened Demand3
handles-4-handler e h =
    let at : At (inputs handles) (own handles) (shape handles) (views handles) 0x00401004 4 = known handles 4 refl (omega arith) in
    let b = (met (inputs handles) (own handles) (shape handles) (views handles) e).onset e cs cs [] 0x00401004 refl (tt, (tt, tt)) (less-room (omega arith) h.roomy) (omega arith) none (λ w. w) in
    let i = in-used handles e h 4 b.start refl (inl (omega arith), tt) (omega arith) b.past b.at b.plain in
    let r = i.0 in
    let f = demand3 (lending (inputs handles) r.now.stack) e r.now r.asked in
    let q = f.found r.now.stack (outside-same _ _ r.now.stack) in
    let z = shape_at e r.now at r.asked (ap (λ (s : State). s.regs.pc) i.1 ∙ b.at) in
    (r, told_as (answer (lending (inputs handles) r.now.stack) r.now.regs) (ap (λ (u : Unwound). u.told) q ∙ f.answer.told) r.place (ap (λ (s : Shape). s.handler) z) r.codes)
