-- The walk by turns is the walk: what holds wherever a loop begins a turn, how a turn keeps it, and what it says when the loop is left.
-- Assumes nothing.
use Rattle.std.specs.Prelude.{if◌then◌else◌, Ok}
use Prim.Native.Nat.{ℕ, zero, suc, ◌+◌, ◌<◌}
use mathlib.Core.Path.{◌≡◌, refl, sym, ap, ◌∙◌}
use mathlib.Core.Bool.{true, false}
use mathlib.Core.List.{List, [], ◌∷◌, ◌++◌, append_assoc, append-nil}
use native.Mathlib.Omega.{arith}
use native.Mathlib.Numerals.{add-one}
use lib.Dec.{eqb}
use lib.ListN.{length, drop, set, get_or, length-append, length-set}
use lib.Seq.{drop-cons, set_at}
use borrow.Author.Tests.{ne_eqb}
use Rattle.unwinding.specs.Trail.{Walker, FrameOf, Trail, stopped, listed, filled, next_frame, walk_from, walk}
use Rattle.unwinding.specs.AsCoded.Turn.{Standing, Turn, Small, begun, gone}
use Rattle.unwinding.proofs.Turns.{Turns, at-end, at-full, at-refusal, goes}
use Rattle.unwinding.proofs.Rising.{Bounded, small-on}

-- one less
abbrev pub less : ℕ → ℕ
less zero = zero
less (suc k) = k

less-is : (k : ℕ) → 0 < k → suc (less k) ≡ k
less-is zero p = absurd (omega arith)
less-is (suc k) p = refl

-- a record stored behind those listed
put_on : {F : Type 0} (fs L : List F) (k : ℕ) (f : F) → length fs ≡ k → k < length L → set (fs ++ drop k L) k f ≡ (fs ++ (f ∷ [])) ++ drop (k + 1) L
put_on fs L k f l h = rw (append_assoc, add-one, drop-cons L k f) (set_at fs (get_or L k f) (drop (suc k) L) f k l)

module _ (W : Walker) where
  open W use {State, Caller, place, Frame, listed_as}

  -- a trail behind the frames listed so far, with the sum of their codes
  abbrev pub after : List Frame → ℕ → Trail W → Trail W
  after fs m w = record { frames = fs ++ w.frames; stop = w.stop; codes = m + w.codes }

  after_none : (w : Trail W) → after [] 0 w ≡ w
  after_none w = let z : 0 + w.codes ≡ w.codes = omega arith in rw z

  after-listed : (fs : List Frame) (m : ℕ) (g : State) (c : Caller) (w : Trail W)
      → after (fs ++ (listed_as g (place c) ∷ [])) (m + W.codes c) w ≡ after fs m (listed W g c w)
  after-listed fs m g c w =
      let n : m + W.codes c + w.codes ≡ m + (W.codes c + w.codes) = omega arith in rw (append_assoc, n)

module _ (W : Walker) (frame_of : FrameOf W) where
  open W use {State, Caller, Frame, ended}

  -- what is left to walk from where it stands, with room for so many more
  abbrev pub rest_of : (left : ℕ) → Standing W → Trail W
  rest_of left s = if s.end then stopped W ended else walk_from W frame_of left (eqb s.frames 0) s.at

  -- nothing, where a turn does not go on
  pub over : {room : ℕ} {s : Standing W} {r : Turn W} (left : ℕ) → Turns W frame_of room s r → s.frames + left ≡ room → r.on ≡ false → rest_of left s ≡ stopped W r.stop
  unfolding walk_from
  over left (at-end p) k o = rw p
  over zero (at-full p f) k o = rw p
  over (suc n) (at-full p f) k o = absurd (omega arith)
  over zero (at-refusal r p f w) k o = absurd (omega arith)
  over (suc n) (at-refusal r p f w) k o = rw (p, w)
  over left (goes c p f w) k o = absurd (let z : ◌≡◌ {A = ℕ} 0 1 = cc in omega arith)

  -- the frame, and then what is left from the next state
  pub goes_on : (left : ℕ) (s : Standing W) (c : Caller) → s.end ≡ false → next_frame W frame_of (eqb s.frames 0) s.at ≡ Ok c
      → rest_of (suc left) s ≡ listed W s.at c (rest_of left (gone W s c).next)
  unfolding walk_from
  goes_on left s c p w = rw (p, w, ne_eqb (s.frames + 1) 0 (λ h. omega arith))

  -- a turn that goes on met neither the end nor a full list nor a refusal
  pub record Onward (room : ℕ) (s : Standing W) (r : Turn W) : Type 0 where
    pub caller : Caller
    pub unwinds : next_frame W frame_of (eqb s.frames 0) s.at ≡ Ok caller
    pub going : s.end ≡ false
    pub within : s.frames < room
    pub is : r ≡ gone W s caller

  pub onward : {room : ℕ} {s : Standing W} {r : Turn W} → Turns W frame_of room s r → r.on ≡ true → Onward room s r
  onward (at-end p) o = absurd (let z : ◌≡◌ {A = ℕ} 0 1 = cc in omega arith)
  onward (at-full p f) o = absurd (let z : ◌≡◌ {A = ℕ} 0 1 = cc in omega arith)
  onward (at-refusal r p f w) o = absurd (let z : ◌≡◌ {A = ℕ} 0 1 = cc in omega arith)
  onward (goes c p f w) o = record { caller = c; unwinds = w; going = p; within = f; is = refl }

  module _ (most : ℕ) where
    -- the frames listed, what is left of the list as it was lent, and the rest of the walk are the whole walk
    pub record Midway (g : State) (L : List Frame) (left : ℕ) (s : Standing W) (fs ys : List Frame) : Type 0 where
      pub same : after W fs s.codes (rest_of left s) ≡ walk W frame_of (length L) g
      pub many : length fs ≡ s.frames
      pub room : s.frames + left ≡ length L
      pub lies : ys ≡ fs ++ drop s.frames L
      pub long : length ys ≡ length L
      pub small : Small W most s

    -- before the first frame
    pub midway-begins : (g : State) (L : List Frame) → Midway g L (length L) (begun W g) [] L
    midway-begins g L = record {
      same = after_none W (walk W frame_of (length L) g);
      many = refl;
      room = omega arith;
      lies = refl;
      long = refl;
      small = record { rose = omega arith; few = omega arith };
    }

    module _ {g : State} {L : List Frame} {left : ℕ} {s : Standing W} {fs ys : List Frame} (h : Midway g L left s fs ys) (r : Turn W) (e : Turns W frame_of (length L) s r) where
      -- a turn that goes on keeps it
      module _ (o : r.on ≡ true) where
        abbrev on : Onward (length L) s r
        on = onward e o

        pub within : s.frames < length ys
        within = rw h.long on.within

        some_left : suc (less left) ≡ left
        some_left = less-is left (omega (arith, on.within, h.room))

        pub fewer : less left < left
        fewer = omega (arith, some_left)

        still-same : after W (fs ++ (r.frame ∷ [])) r.next.codes (rest_of (less left) r.next) ≡ walk W frame_of (length L) g
        still-same =
            rw on.is
            (after-listed W fs s.codes s.at on.caller (rest_of (less left) (gone W s on.caller).next)
            ∙ ap (after W fs s.codes) (sym (goes_on (less left) s on.caller on.going on.unwinds) ∙ ap (λ n. rest_of n s) some_left)
            ∙ h.same)

        pub midway-on : Bounded W frame_of most → Midway g L (less left) r.next (fs ++ (r.frame ∷ [])) (set ys s.frames r.frame)
        midway-on bounded =
            let k : r.next.frames ≡ s.frames + 1 = rw on.is in
            record {
              same = still-same;
              many = length-append fs (r.frame ∷ []) ∙ omega (arith, h.many, k);
              room = omega (arith, h.room, some_left, k);
              lies = rw (h.lies, k) (put_on fs L s.frames r.frame h.many on.within);
              long = length-set ys s.frames r.frame ∙ h.long;
              small = rw on.is (small-on W frame_of most bounded s on.caller h.small on.unwinds);
            }

      -- one that does not: the walk ends here, with the frames listed and the rest of the list as lent
      pub ended-with : r.on ≡ false → walk W frame_of (length L) g ≡ record { frames = fs; stop = r.stop; codes = s.codes }
      ended-with o =
          let z : s.codes + 0 ≡ s.codes = omega arith in
          sym h.same ∙ ap (after W fs s.codes) (over left e h.room o) ∙ rw (append-nil, z)

      pub filled-with : r.on ≡ false → ys ≡ filled W L (walk W frame_of (length L) g)
      filled-with o = rw (ended-with o, h.many) h.lies
