-- Every place of a record whose code list may have a prologue is reached (RULES 10.21), from any state with room and on from any state on
-- the way.
-- Assumes nothing.
use Rattle.std.specs.Prelude.{Ok}
use Prim.Native.Nat.{ℕ, ◌+◌, ◌-◌, ◌%◌, ◌^◌, ◌≤◌, ◌<◌}
use mathlib.Core.Path.{◌≡◌, refl, sym, ap, ap₂, ◌∙◌, subst}
use mathlib.Core.Bool.{◌&&◌}
use mathlib.Core.List.{List, [], ◌∷◌, ◌++◌, append-nil, append_assoc}
use lib.ListN.{length}
use native.Mathlib.Omega.{arith}
use Rattle.words.specs.Bits.{even}
use Rattle.lent.specs.Lent.{Lent, end, word_at}
use Rattle.words.specs.declared.Place.{Place}
use Rattle.words.specs.declared.Place.TheVariants.{Prologue, Body, Epilogue}
use Rattle.unwinding.specs.CodeList.{total}
use Rattle.unwinding.specs.Shape.{Shape}
use Rattle.unwinding.specs.View.{View}
use Rattle.codes.specs.Code.{size, codes_at}
use Rattle.codes.specs.declared.Code.{Code}
use Rattle.codes.specs.declared.Undo.{Undo}
use Rattle.codes.specs.declared.Undo.TheVariants.{Up, Pop, SpFrom, Vpop, LoadLr, Nothing}
use Rattle.machine.specs.Registers.{set_pc}
use Rattle.machine.specs.declared.Regs.{Regs}
use Rattle.machine.specs.Step.{effect}
use Rattle.pdata.specs.Pdata.{find}
use Rattle.pdata.specs.declared.Entry.{Entry}
use Rattle.frame.specs.Frame.{Inputs}
use Rattle.forward.specs.Registers.{width}
use Rattle.forward.specs.Saving.{saves, falls, RX}
use Rattle.forward.specs.State.{Whole, State}
use Rattle.forward.specs.Body.{Holds, Words, Wanted, SpAfter, SpIn}
use Rattle.forward.specs.Body as Kept
use Rattle.forward.specs.Epilogue.{Undoes, Leaves, Ran, none, next}
use Rattle.forward.specs.Stop.{codes_of, Stopped, prologue, body, epilogue}
use Rattle.forward.specs.Prologue.{Done}
use Rattle.forward.specs.Prologue as Forth
use Rattle.forward.specs.Met.{Fine, room, Plain, Reaches, At, Roomy, Went, Everywhere, Onward, Onset, Used, Leaving, Met}
use Rattle.forward.specs.Met as Meeting
use Rattle.forward.proofs.Back.{St, Inv, inv-near}
use Rattle.forward.proofs.Flat.{ops, flat}
use Rattle.forward.proofs.Steps.{seen, st, done-fits, inv-body}
use Rattle.codes.proofs.Sound.{Sound}
use Rattle.forward.proofs.Undoing.{SoundCode, AllSound, effects}
use Rattle.forward.proofs.Leaving.{left-stack, inv_left}
use Rattle.forward.proofs.Memory.{outside-same}
use Rattle.forward.proofs.Scanned.{codes-sound}
use Rattle.unwinding.proofs.All.{all_end}
use Rattle.unwinding.proofs.Viewed.{viewed, read_of}
use Rattle.forward.proofs.Framed.{fit-second, fit-like}
use Rattle.forward.proofs.Real.{Real, Bytes, Solid, effect-real}
use Rattle.forward.proofs.Executing.{standing, done-place, room-append, done-went, after, runs, after-solid}

-- ---- what a state keeps of itself
holds_same : (of : ℕ → Type 0) (k : Lent) (a : ℕ) (xs : List ℕ) → Holds of k k a xs
holds_same of k a [] = tt
holds_same of k a (x ∷ xs) = (λ q. refl, holds_same of k (a + width x) xs)

pub words_same : (of : ℕ → Type 0) (k : Lent) (a : ℕ) (cs : List Code) → Words of k k a cs
words_same of k a [] = tt
words_same of k a (c ∷ cs) = (holds_same of k a (saves c.undo), words_same of k (a + falls c.undo) cs)

after_same : (u : Undo) (base a : ℕ) → a % 4 ≡ 0 → base ≤ a → SpAfter u base a a
after_same (Up n) base a i j = refl
after_same (Pop l) base a i j = refl
after_same (SpFrom x) base a i j = (i, omega arith, omega arith)
after_same (Vpop s e) base a i j = refl
after_same (LoadLr n) base a i j = refl
after_same Nothing base a i j = refl

in-same : (cs : List Code) (base a : ℕ) → a % 4 ≡ 0 → base ≤ a → SpIn cs base a a
in-same [] base a i j = refl
in-same (c ∷ cs) base a i j = after_same c.undo base a i j

-- a body that has done nothing but go to an address
pub idle : (cs : List Code) (s : State) (pc : ℕ) → s.regs.sp % 4 ≡ 0 → s.stack.base ≤ s.regs.sp → Kept.Body cs s (standing pc s)
idle cs s pc i j = record {
  base = refl;
  long = refl;
  words = words_same (Wanted cs) s.stack s.regs.sp cs;
  sp = in-same cs s.stack.base s.regs.sp i j;
  r_x = λ x q. refl;
  unsaved = λ x q z. refl;
}

pub stood : {g : Regs} {k : Lent} (pc : ℕ) → Solid g k → Solid (set_pc g pc) k
stood pc x = record { real = record { r = x.real.r; lr = x.real.lr; d = x.real.d }; bytes = x.bytes; sp = x.sp }

-- ---- an epilogue's instructions run
module _ (k : Lent) (e : St) (al : e.sp % 4 ≡ 0) (top : e.sp ≤ end k) (r_x : ℕ → Type 0) where
  record Gone (done : List Code) (s : State) : Type 0 where
    now : State
    left : Ran r_x done s now
    pc : now.regs.pc ≡ s.regs.pc + total size done
    sp : now.regs.sp ≤ e.sp
    real : Bytes k → Real s.regs → Real now.regs

  record One (u : Undo) (cs : List Code) (pc : ℕ) (s : State) : Type 0 where
    now : State
    leaves : Leaves r_x u s now
    at : now.regs.pc ≡ pc
    inv : Inv k.base e (flat cs) (seen now.regs) (word_at k)
    stack : now.stack ≡ k
    real : Bytes k → Real s.regs → Real now.regs

  -- what the code does, and then the pc is put past it
  does-one :
      (u : Undo) (cs : List Code) (pc : ℕ) (s : State) → Sound u → s.stack ≡ k → Inv k.base e (ops u ++ flat cs) (seen s.regs) (word_at k)
      → ((t : State) → Undoes u s t → Leaves r_x u s t)
      → One u cs pc s
  does-one u cs pc s o q v f =
      let n = effects k e al top u (flat cs) s.regs o s.whole v in
      let w : Whole n.next = n.whole in
      let t : State = record { regs = set_pc n.next pc; stack = s.stack; whole = record { r = w.r; d = w.d } } in
      record {
        now = t;
        leaves = f t (record {
          does = λ h z.
              let same : Ok n.next ≡ Ok h = sym (n.runs k (outside-same e.sp (end k) k)) ∙ ap (λ (x : Lent). effect x u s.regs) (sym q) ∙ z in
              let p : n.next ≡ h = cc in
              (ap (λ g. g.sp) p, record { r = ap (λ g. g.r) p; lr = ap (λ g. g.lr) p; d = ap (λ g. g.d) p });
          stack = refl;
        });
        at = refl;
        inv = n.inv;
        stack = q;
        real = λ b h. let w = effect-real k u s.regs n.next b h (n.runs k (outside-same e.sp (end k) k)) in record { r = w.r; lr = w.lr; d = w.d };
      }

  leaves-one : (u : Undo) (cs : List Code) (pc : ℕ) (s : State) → Sound u → s.stack ≡ k → Inv k.base e (ops u ++ flat cs) (seen s.regs) (word_at k) → One u cs pc s
  leaves-one (Up n) cs pc s o q v = does-one (Up n) cs pc s o q v (λ t h. h)
  leaves-one (Pop l) cs pc s o q v = does-one (Pop l) cs pc s o q v (λ t h. h)
  leaves-one (SpFrom x) cs pc s o q v = does-one (SpFrom x) cs pc s o q v (λ t h. h)
  leaves-one (Vpop a b) cs pc s o q v = does-one (Vpop a b) cs pc s o q v (λ t h. h)
  leaves-one (LoadLr n) cs pc s o q v = does-one (LoadLr n) cs pc s o q v (λ t h. h)
  leaves-one Nothing cs pc s o q v =
      record { now = standing pc s; leaves = record { sp = refl; rest = λ x h. refl; stack = refl }; at = refl; inv = v; stack = q; real = λ b h. record { r = h.r; lr = h.lr; d = h.d } }

  leave : (done todo : List Code) (s : State) → AllSound (done ++ todo) → s.stack ≡ k → Inv k.base e (flat (done ++ todo)) (seen s.regs) (word_at k) → Gone done s
  unfolding total
  leave [] todo s o q v =
      record { now = s; left = none; pc = omega arith; sp = (inv-near k.base e al v).high; real = λ b h. h }
  leave (c ∷ done) todo s o q v =
      let n = leaves-one c.undo (done ++ todo) (s.regs.pc + size c) s o.0 q v in
      let i = leave done todo n.now o.1 n.stack n.inv in
      record {
        now = i.now;
        left = next c n.leaves i.left;
        pc = omega (arith, i.pc, n.at);
        sp = i.sp;
        real = λ b h. i.real b (n.real b h);
      }

-- ---- a state in which the function stands
pub solid-of : {s : State} → Plain s → Solid s.regs s.stack
solid-of w = record { real = record { r = w.r; lr = w.lr; d = w.d }; bytes = w.bytes; sp = w.sp }

pub plain_of : {s : State} → Solid s.regs s.stack → s.regs.pc < 2 ^ 32 → Plain s
plain_of x h = record { r = x.real.r; sp = x.sp; lr = x.real.lr; pc = h; d = x.real.d; bytes = x.bytes }

-- all but the run itself
pub reach :
    {t : Inputs} {own : Entry} {s : Shape} {v : View Code} {pc o n : ℕ} (e now : State) (p : Place) (cs : List Code) → At t own s v pc o → Roomy e n
    → now.regs.pc ≡ pc
    → now.stack.base ≡ e.stack.base
    → length now.stack.bytes ≡ length e.stack.bytes
    → (Plain e → Solid now.regs now.stack)
    → Stopped own s v e o now p cs
    → Reaches t e o p cs
reach {t} {own} {s} {v} {pc} {o} e now p cs a r q b l solid h = record {
  now = now;
  asked = record {
    passes1 = ap₂ ◌&&◌ (fit-like e.stack now.stack b l ∙ r.fit) a.passes1;
    own = own;
    found = ap (find t.image t.pdata) q ∙ a.found;
    shape = s;
    passes4-5 = a.passes4-5;
    view = v;
    passes6-7 = a.passes6-7;
    offset = o;
    here = a.here ∙ ap (λ x. even x - t.image - own.start) (sym q);
    covers = a.covers;
    aligned = r.aligned;
    lent = omega (arith, r.high);
    stack = refl;
    place = p;
    undone = cs;
    stopped = h;
  };
  here = refl;
  place = refl;
  codes = refl;
  plain = λ w. plain_of (solid w) (omega (arith, q, a.small));
}

-- ---- the prologue
-- the instructions of more codes, from a state that some of them left
record Further (e mid : State) (cs more done : List Code) : Type 0 where
  went : Went done mid more (after more mid)
  whole : Done e cs (after more mid)
  low : (after more mid).stack.base ≤ (after more mid).regs.sp
  base : (after more mid).stack.base ≡ e.stack.base
  long : length (after more mid).stack.bytes ≡ length e.stack.bytes
  pc : (after more mid).regs.pc ≡ mid.regs.pc + total size more

goes_on : (e mid : State) (cs more done : List Code) → cs ≡ more ++ done → Fine cs → Roomy e (room cs) → Done e done mid → Further e mid cs more done
goes_on e mid cs more done q f r d =
    let i = done-place d in
    let n : room cs ≡ room more + room done = ap room q ∙ room-append more done in
    let x = runs done mid more (subst Fine q f) (omega (arith, i.sp, i.base, r.low)) (omega (arith, i.sp, i.base, i.long, r.high)) in
    let p = x.place in
    record {
      went = x.went;
      whole = subst (λ l. Done e l (after more mid)) (sym q) (done-went d x.went);
      low = omega (arith, p.sp, p.base, i.sp, i.base, r.low);
      base = p.base ∙ i.base;
      long = p.long ∙ i.long;
      pc = x.pc;
    }

onward : {t : Inputs} {own : Entry} {s : Shape} {v : View Code} (e : State) → Onward t own s v e
unfolding reach
onward e mid ahead undone more done a q z h f r d w =
    let x = goes_on e mid undone more done z f r d in (
      reach e (after more mid) Prologue undone a r x.pc x.base x.long (λ y. after-solid mid more (solid-of (w y)))
          (prologue (record { ahead = ahead; codes = q; offset = refl; early = omega (arith, h); done = x.whole; stays = x.low })),
      x.went,
    )

onset : (e : State) → Onset e
onset e mid cs more done pc q f r b d w =
    let x = goes_on e mid cs more done q f r d in
    let left : State = after more mid in
    record {
      start = standing pc left;
      past = record { left = left; done = x.whole; stays = x.low; keeps = idle cs left pc (done-fits x.whole r.aligned).1 x.low };
      went = x.went;
      at = refl;
      plain = λ y. plain_of (stood pc (after-solid mid more (solid-of (w y)))) b;
    }

-- ---- the body
used : {t : Inputs} {own : Entry} {s : Shape} {v : View Code} (e : State) → Used t own s v e
unfolding reach
used {v} e o now a h i r p w =
    let d = done-place p.done in
    let k = p.keeps in
    (reach e now Body (codes_of v) a r refl (k.base ∙ d.base) (k.long ∙ d.long) (λ y. solid-of (w y)) (body (record { late = h; outside = i; past = p })), refl)

-- ---- an epilogue
ran_on : {r_x : ℕ → Type 0} {gone more : List Code} {s t u : State} → Ran r_x gone s t → Ran r_x more t u → Ran r_x (gone ++ more) s u
ran_on none m = m
ran_on (next c f g) m = next c f (ran_on g m)

leaving : {t : Inputs} {own : Entry} {s : Shape} {v : View Code} (e : State) → Leaving t own s v e
unfolding reach
leaving {t} {own} {s} {v} e sc ex start mid gone more undone a of fit c q h r p m w =
    let y = viewed size codes_at s v a.passes6-7 in
    let x = read_of size codes_at s y.epilogues of in
    let second = fit-second t.xdata own s v a.passes4-5 y sc ex of fit in
    let k : Lent = start.stack in
    let d = done-place p.done in
    let base : k.base ≡ e.stack.base = p.keeps.base ∙ d.base in
    let long : length k.bytes ≡ length e.stack.bytes = p.keeps.long ∙ d.long in
    let top : e.regs.sp ≤ end k = omega (arith, r.high) in
    let z : ex.codes.list ≡ gone ++ (more ++ undone) = q ∙ append_assoc gone more undone in
    let sound : AllSound (gone ++ (more ++ undone)) = subst AllSound z (codes-sound _ _ _ x.codes) in
    let inv = subst (λ l. Inv k.base (st e) (flat l) (seen start.regs) (word_at k)) z
    (second.inv _ _ _ _ (inv-body r.aligned p.done p.stays p.keeps)) in
    let at = inv_left k (st e) r.aligned top (RX (codes_of v)) (more ++ undone) sound (λ x b. second.r_x x (subst (λ l. RX l x) (sym z) b)) m refl inv in
    let here : mid.stack ≡ k = left-stack m in
    let g = leave k (st e) r.aligned top (RX (codes_of v)) more undone mid (all_end SoundCode gone (more ++ undone) sound) here at in
    let same : g.now.stack ≡ k = subst (λ (l : Lent). g.now.stack ≡ l) here (left-stack {t = g.now} g.left) in (
      reach e g.now Epilogue undone a r g.pc (ap (λ (l : Lent). l.base) same ∙ base) (ap (λ (l : Lent). length l.bytes) same ∙ long)
          (λ b.
          let i = solid-of (w b) in
          let bytes : Bytes k = subst Bytes here i.bytes in
          record { real = g.real bytes i.real; bytes = subst Bytes (sym same) bytes; sp = omega (arith, g.sp, b.sp) })
          (epilogue (record {
            scope = sc;
            read = ex;
            listed = of;
            fit = fit;
            unconditional = c;
            gone = gone ++ more;
            codes = q;
            offset = refl;
            inside = omega (arith, h);
            start = start;
            past = p;
            ran = ran_on m g.left;
          })),
      g.left,
    )

-- ---- every boundary, from any registers
fine_end : (a b : List Code) → Fine (a ++ b) → Fine b
fine_end [] b f = f
fine_end (c ∷ a) b f = fine_end a b f.1

pub less-room : {e : State} {m n : ℕ} → n ≤ m → Roomy e m → Roomy e n
less-room h r = record { fit = r.fit; aligned = r.aligned; high = r.high; low = omega (arith, r.low) }

everywhere : {t : Inputs} {own : Entry} {s : Shape} {v : View Code} (e : State) → Everywhere t own s v e
everywhere e o p u (Meeting.prologue ahead undone q h) a f r =
    let n = ap room q ∙ room-append ahead undone in
    (onward e e ahead undone undone [] a q (sym (append-nil undone)) h (fine_end ahead undone (subst Fine q f)) (less-room (omega (arith, n)) r) Forth.none (λ w. w)).0
everywhere {t} {own} {s} {v} e o p u (Meeting.body h i) a f r =
    let cs : List Code = codes_of v in
    let b = onset e e cs cs [] (e.regs.pc + o) (sym (append-nil cs)) f r a.small Forth.none (λ w. w) in
    (used e o b.start (subst (λ pc. At t own s v pc o) (sym b.at) a) h i (less-room (omega arith) r) b.past b.plain).0
everywhere {t} {own} {s} {v} e o p u (Meeting.epilogue {sc = sc} {ex = ex} gone undone of fit c q h) a f r =
    let cs : List Code = codes_of v in
    let b = onset e e cs cs [] (e.regs.pc + ex.start) (sym (append-nil cs)) f r (omega (arith, a.small)) Forth.none (λ w. w) in
    let z : e.regs.pc + (ex.start + total size gone) ≡ b.start.regs.pc + total size gone = omega (arith, b.at) in
    (leaving e sc ex b.start b.start [] gone undone (subst (λ pc. At t own s v pc (ex.start + total size gone)) z a) of fit c q h (less-room (omega arith) r) b.past
    none b.plain).0

pub met : (t : Inputs) (own : Entry) (s : Shape) (v : View Code) (e : State) → Met t own s v e
met t own s v e = record { everywhere = everywhere e; onward = onward e; onset = onset e; used = used e; leaving = leaving e }
