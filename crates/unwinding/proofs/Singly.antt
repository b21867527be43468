-- A walk goes by single frames, leaves the rest of the list, and is cut short by less room: given that a later frame is the frame by itself
-- but that 12 refuses a leaf.
-- Assumes nothing.
use Rattle.std.specs.Prelude.{Ok, Err}
use Prim.Native.Nat.{ℕ, zero, suc, ◌+◌, ◌≤◌, ◌<◌}
use mathlib.Core.Path.{◌≡◌, refl, sym, ap, ◌∙◌, subst}
use mathlib.Core.Logic.{◌≢◌}
use mathlib.Core.List.{List}
use mathlib.Core.Bool.{Bool, true, false}
use lib.ListN.{length, get_or, drop, length-append, length-drop, get_or-append}
use lib.Seq.{drop-append_seam}
use lib.Dec.{eqb}
use native.Mathlib.Omega.{arith}
use borrow.Author.Tests.{eqb-true, eqb-false, ne_eqb, not-true, not-false}
use Rattle.words.specs.declared.Place.TheVariants.{Leaf}
use Rattle.words.specs.declared.Refusal.{Refusal}
use Rattle.words.specs.declared.Refusal.TheVariants.{NoRecord, SpSame}
use Rattle.words.specs.Answer.{Res}
use Rattle.unwinding.specs.Trail.{Walker, FrameOf, Trail, stopped, listed, next_frame, walk}
use Rattle.unwinding.specs.Singly.{Alone, alone_of, walked_all, Untouched, Agree, Cut, reached, codes_run, Why, itself, uncovered, still, Stops, at-end, at-full, at-refusal, Onward, Follows}
use Rattle.unwinding.proofs.Thirteen as Thirteen
use Rattle.unwinding.proofs.Walks.{Walks, no_room, refused, last, more, walks}
use Rattle.unwinding.proofs.TwoWalks.{Begins, begins-alike, shorter}

-- ---- the lent list
pub untouched : (W : Walker) (l : List W.Frame) (w : Trail W) → length w.frames ≤ length l → Untouched W l (walked_all W l w)
untouched W l w h = record {
  room = h;
  long = let a = length-append w.frames (drop (length w.frames) l) in let b = length-drop (length w.frames) l in omega arith;
  rest = drop-append_seam w.frames (drop (length w.frames) l);
}

pub agree : (W : Walker) (l : List W.Frame) (w w' : Trail W) → Begins w.frames w'.frames → Agree W (length w.frames) (walked_all W l w) (walked_all W l w')
agree W l w w' b =
    let k : length w'.frames ≡ length w.frames + length b.rest = ap length b.whole ∙ length-append w.frames b.rest in
    (omega (arith, k), sym (begins-alike W l l w w' b))

pub less-room : (W : Walker) (frame_of : FrameOf W) (g : W.State) (l l' : List W.Frame) → length l ≤ length l'
    → Cut W (length l) (walked_all W l (walk W frame_of (length l) g)) (walked_all W l' (walk W frame_of (length l') g))
less-room W frame_of g l l' h =
    let s = shorter W frame_of (length l) (length l') h true g in
    record { frames = s.frames; list = begins-alike W l l' (walk W frame_of (length l) g) (walk W frame_of (length l') g) s.begins; whole = λ n. ap (λ v. (walked_all W l v).walked) (s.whole n) }

-- ---- a frame after the first, and the same by itself
pub data Later (W : Walker) (x y : Res W.Caller) : Type 0 where
  refusal : (r : Refusal) → x ≡ Err r → y ≡ Err r → Later W x y
  covered : (c : W.Caller) → W.place c ≢ Leaf → x ≡ Ok c → y ≡ Ok c → Later W x y
  leaf : (c : W.Caller) → W.place c ≡ Leaf → x ≡ Err NoRecord → y ≡ Ok c → Later W x y

module _ (W : Walker) (frame_of : FrameOf W) (later : (g : W.State) → Later W (frame_of false g) (frame_of true g)) (unwind : W.State → Alone W) (alone : (g : W.State) → unwind g ≡ alone_of W g (frame_of true g)) where
  open W use {State, pc, sp, Caller, to, place, Frame, listed_as, Stop, ended, full, refused_at}

  -- the frame at g, with m before it
  module _ (g : State) (m : ℕ) where
    record Goes (c : Caller) : Type 0 where
      is : unwind g ≡ alone_of W g (Ok c)
      on : 0 < m → (place c ≢ Leaf) × (sp (to c) ≢ sp g)

    next-given : (b : Bool) → eqb m 0 ≡ b → (c : Caller) → next_frame W frame_of b g ≡ Ok c → Goes c
    next-given true z c q =
        record { is = alone g ∙ ap (alone_of W g) (Thirteen.next-was W frame_of true g c q).0; on = λ h. absurd (omega (arith, eqb-true m 0 z)) }
    next-given false z c q = let u = Thirteen.next-was W frame_of false g c q in go (later g) u.0 (eqb-false (sp (to c)) (sp g) (not-true (eqb (sp (to c)) (sp g)) u.1))
      where
        go : Later W (frame_of false g) (frame_of true g) → frame_of false g ≡ Ok c → sp (to c) ≢ sp g → Goes c
        go (refusal r x y) e k = absurd (let z : ◌≡◌ {A = ℕ} 0 1 = cc in omega arith)
        go (leaf d p x y) e k = absurd (let z : ◌≡◌ {A = ℕ} 0 1 = cc in omega arith)
        go (covered d p x y) e k =
            let same : d ≡ c = cc in
            record { is = alone g ∙ ap (alone_of W g) (y ∙ ap Ok same); on = λ h. (rw (← same) p, k) }

    next-refused : (b : Bool) → eqb m 0 ≡ b → {r : Refusal} → Thirteen.Next W frame_of b g (Err r) → Why W unwind g m r
    next-refused true z (Thirteen.refused r e) = itself r (ap (λ v. v.verdict) (alone g ∙ ap (alone_of W g) e))
    next-refused true z (Thirteen.still c e p) = absurd (let z : ◌≡◌ {A = ℕ} 0 1 = cc in omega arith)
    next-refused false z (Thirteen.refused r e) = go (later g)
      where
        go : Later W (frame_of false g) (frame_of true g) → Why W unwind g m r
        go (refusal s x y) = itself r (ap (λ v. v.verdict) (alone g ∙ ap (alone_of W g) (y ∙ sym x ∙ e)))
        go (covered c p x y) = absurd (let z : ◌≡◌ {A = ℕ} 0 1 = cc in omega arith)
        go (leaf c p x y) =
            let is = alone g ∙ ap (alone_of W g) y in
            let same : NoRecord ≡ r = cc in
            subst (Why W unwind g m) same (uncovered (omega (arith, eqb-false m 0 z)) (ap (λ v. v.verdict) is) (rw is p))
    next-refused false z (Thirteen.still c e p) = go (later g)
      where
        go : Later W (frame_of false g) (frame_of true g) → Why W unwind g m SpSame
        go (refusal s x y) = absurd (let z : ◌≡◌ {A = ℕ} 0 1 = cc in omega arith)
        go (leaf d k x y) = absurd (let z : ◌≡◌ {A = ℕ} 0 1 = cc in omega arith)
        go (covered d k x y) =
            let same : d ≡ c = cc in
            let is = alone g ∙ ap (alone_of W g) (y ∙ ap Ok same) in
            still (omega (arith, eqb-false m 0 z)) (ap (λ v. v.verdict) is) (rw (is, ← same) k) (rw is (eqb-true (sp (to c)) (sp g) (not-false (eqb (sp (to c)) (sp g)) p)))

  -- what is left of a walk from g, with m frames behind it
  record Left (m : ℕ) (g : State) (room : ℕ) (w : Trail W) : Type 0 where
    given : (k : ℕ) → k < length w.frames → (unwind (reached W unwind g k)).verdict ≡ Ok tt
    shown : (k : ℕ) (none : Frame) → k < length w.frames → get_or w.frames k none ≡ listed_as (reached W unwind g k) (unwind (reached W unwind g k)).place
    codes : w.codes ≡ codes_run W unwind g (length w.frames)
    on : (k : ℕ) → 0 < m + k → k < length w.frames → Onward W unwind (reached W unwind g k)
    stop : (n top : ℕ) → n ≡ m + length w.frames → top ≡ m + room → Stops W unwind (reached W unwind g (length w.frames)) n top w.stop

  -- no frame more
  over : (m : ℕ) (g : State) (room : ℕ) (s : Stop) → ((n top : ℕ) → n ≡ m → top ≡ m + room → Stops W unwind g n top s) → Left m g room (stopped W s)
  unfolding reached codes_run
  over m g room s h = record {
    given = λ k l. absurd (omega arith);
    shown = λ k none l. absurd (omega arith);
    codes = refl;
    on = λ k p l. absurd (omega arith);
    stop = λ n top p q. h n top (omega arith) q;
  }

  -- a frame, and what is left from its caller
  module _ (m : ℕ) (g : State) (room : ℕ) (c : Caller) (w : Trail W) (pc-on : 0 < m → pc g ≢ 0) (here : Goes g m c) (rest : Left (suc m) (to c) room w) where
    given : (k : ℕ) → k < suc (length w.frames) → (unwind (reached W unwind g k)).verdict ≡ Ok tt
    unfolding reached
    given zero l = ap (λ v. v.verdict) here.is
    given (suc k) l = rw here.is (rest.given k (omega arith))

    shown : (k : ℕ) (none : Frame) → k < suc (length w.frames) → get_or (listed W g c w).frames k none ≡ listed_as (reached W unwind g k) (unwind (reached W unwind g k)).place
    unfolding reached
    shown zero none l = rw here.is refl
    shown (suc k) none l = rw here.is (rest.shown k none (omega arith))

    on : (k : ℕ) → 0 < m + k → k < suc (length w.frames) → Onward W unwind (reached W unwind g k)
    unfolding reached
    on zero p l = let l : 0 < m = omega arith in record { pc-on = pc-on l; covered = rw here.is (here.on l).0; moved = rw here.is (here.on l).1 }
    on (suc k) p l = rw here.is (rest.on k (omega arith) (omega arith))

    listed-left : Left m g (suc room) (listed W g c w)
    unfolding reached codes_run
    listed-left = record {
      given = given;
      shown = shown;
      codes = rw here.is (ap (λ n. W.codes c + n) rest.codes);
      on = on;
      stop = λ n top p q. subst (λ v. Stops W unwind (reached W unwind v.to (length w.frames)) n top w.stop) (sym here.is) (rest.stop n top (omega arith) (omega arith));
    }

  left : {room : ℕ} {first : Bool} {g : State} {w : Trail W} (m : ℕ) → eqb m 0 ≡ first → (0 < m → pc g ≢ 0) → Walks W frame_of room first g w → Left m g room w
  left {room} {first} {g} m z h no_room = over m g zero full (λ n top p q. at-full (omega arith) (λ l. h (omega arith)))
  left {first} {g} m z h (refused {n} r e) =
      over m g (suc n) (refused_at g r)
      (λ k top p q. at-refusal r (omega arith) (λ l. h (omega arith)) (subst (λ k. Why W unwind g k r) (sym p) (next-refused g m first z (subst (Thirteen.Next W frame_of first g) e (Thirteen.next W frame_of first g)))))
  left {first} {g} m z h (last {n} c e q) =
      listed-left m g n c (stopped W ended) h (next-given g m first z c e) (over (suc m) (to c) n ended (λ k top p r. at-end (omega arith) q))
  left {first} {g} m z h (more {n} {w} c e q below) =
      listed-left m g n c w h (next-given g m first z c e) (left (suc m) (ne_eqb (suc m) 0 (λ p. omega arith)) (λ l. q) below)

  pub follows : (l : List Frame) (g : State) → Follows W unwind g (length l) (walked_all W l (walk W frame_of (length l) g))
  follows l g =
      let w = walk W frame_of (length l) g in
      let h = left 0 refl (λ p. absurd (omega arith)) (walks W frame_of (length l) true g) in
      record {
        given = h.given;
        shown = λ k none p. get_or-append w.frames (drop (length w.frames) l) none k p ∙ h.shown k none p;
        codes = h.codes;
        on = λ k p. h.on k (omega arith);
        stop = h.stop (length w.frames) (length l) (omega arith) (omega arith);
      }
