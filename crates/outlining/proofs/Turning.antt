-- The parts of an outline, turn by turn: a turn of the walk gives the first of those that are left.
-- Assumes nothing.
use Rattle.std.specs.Prelude.{None, Some, Result, Ok, Err}
use Prim.Native.Nat.{ℕ, suc, ◌+◌, ◌-◌, ◌≤◌}
use mathlib.Core.Path.{◌≡◌, refl, sym, ap, ◌∙◌, subst}
use mathlib.Core.Bool.{true, false}
use mathlib.Core.List.{List, [], ◌∷◌, ◌++◌, append_assoc, append-nil}
use native.Mathlib.Omega.{arith}
use Rattle.unwinding.specs.AsCoded.Turn as General
use Rattle.unwinding.specs.Trail as AnyTrail
use Rattle.unwinding.proofs.Turns.{Turns, turns}
use Rattle.unwinding.proofs.Looping as Loop
use Rattle.unwinding.proofs.Looping.{Onward, onward, goes_on, over}
use Rattle.unwinding.proofs.Rising.{small-on}
use Rattle.frame.specs.Frame.{Inputs}
use Rattle.walking.specs.declared.Frame.{Frame}
use Rattle.walking.specs.declared.Going.{Going}
use Rattle.walking.specs.declared.Standing.{Standing}
use Rattle.walking.specs.declared.Stop.{Stop}
use Rattle.walking.specs.Walk.{arm, frames, Trail}
use Rattle.walking.specs.AsCoded.InPlace.{stands, turning_in, SmallIn, Goes}
use Rattle.walking.proofs.Turns.{bounded}
use Rattle.text.specs.Overlay.{Laid}
use Rattle.listing.specs.Listing.{frame_line, last_of}
use Rattle.outlining.specs.declared.At.{At}
use Rattle.outlining.specs.Outlined.{region_lines, outlined_frame}
use Rattle.outlining.specs.AsCoded.Parts.{opening, parts_from, rest_of, parts_at, standing_at, turn_part, next_at, Stands, TurnWrites}
use Rattle.outlining.proofs.Sizes.{part_length}

-- the parts ask of a trail its stop and the sum of codes, with those that are behind
carried : (t : Inputs) (n k m : ℕ) (fs : List Frame) (w v : Trail) → w.stop ≡ v.stop → k + w.codes ≡ m + v.codes → parts_from t n k fs w ≡ parts_from t n m fs v
unfolding parts_from
carried t n k m [] w v p q = rw (p, q)
carried t n k m (f ∷ fs) w v p q = ap (λ y. (opening n ++ outlined_frame t n f) ∷ y) (carried t (n + 1) k m fs w v p q)

module _ (t : Inputs) (s : General.Standing arm) (r : General.Turn arm) (e : Turns arm (frames t) 256 s r) where
  -- a turn that goes on: its frame, and what is left from where the walk stands then
  module _ (o : r.on ≡ true) where
    abbrev on : Onward arm (frames t) 256 s r
    on = onward arm (frames t) e o

    abbrev after : General.Standing arm
    after = (General.gone arm s on.caller).next

    pub turn-further : r.next.frames ≡ s.frames + 1
    turn-further = rw on.is

    pub turn-room : r.next.frames ≤ 256
    turn-room = omega (arith, turn-further, on.within)

    pub turn_small : SmallIn s → SmallIn r.next
    turn_small h = rw on.is (small-on arm (frames t) 1020 (bounded t) s on.caller h on.unwinds)

    rest-on : rest_of t s ≡ AnyTrail.listed arm s.at on.caller (rest_of t after)
    rest-on =
        let k : 256 - s.frames ≡ suc (256 - (s.frames + 1)) = omega (arith, on.within) in
        ap (λ n. Loop.rest_of arm (frames t) n s) k ∙ goes_on arm (frames t) (256 - (s.frames + 1)) s on.caller on.going on.unwinds

    pub turn_on : parts_at t s ≡ (opening s.frames ++ outlined_frame t s.frames r.frame) ∷ parts_at t r.next
    unfolding parts_from
    turn_on =
        let f = opening s.frames ++ outlined_frame t s.frames (General.gone arm s on.caller).frame in
        rw on.is
        (ap (λ (w : Trail). parts_from t s.frames s.codes w.frames w) rest-on
        ∙ ap (λ y. f ∷ y) (carried t (s.frames + 1) s.codes (s.codes + arm.codes on.caller) (rest_of t after).frames _ (rest_of t after) refl (omega arith)))

  -- one that does not: the last line
  pub turn-off : s.frames ≤ 256 → r.on ≡ false → parts_at t s ≡ (opening s.frames ++ last_of r.stop s.frames s.codes) ∷ []
  unfolding parts_from
  turn-off h o =
      let rest : rest_of t s ≡ AnyTrail.stopped arm r.stop = over arm (frames t) (256 - s.frames) e (omega arith) o in
      let z : s.codes + 0 ≡ s.codes = omega arith in
      ap (λ (w : Trail). parts_from t s.frames s.codes w.frames w) rest ∙ ap (λ k. (opening s.frames ++ last_of r.stop s.frames k) ∷ []) z

-- where the code stands, without the registers that are lent
abbrev pub stand_of : At → Standing
stand_of a = record { sp = a.regs.sp; lr = a.regs.lr; pc = a.regs.pc; end = a.end; frames = a.frames; codes = a.codes }

-- a turn in place prints the first of the parts that are left
module _ (t : Inputs) (a : At) (h : Stands t a) (p : Standing) (q : p ≡ stand_of a) (r d : List ℕ) where
  abbrev s : General.Standing arm
  s = standing_at a

  met : (x : Result Going Stop) → Goes t 256 (stands p a.regs.r a.regs.d) x r d → Turns arm (frames t) 256 s (turning_in s x r d)
  met x g =
      let goes : Goes t 256 s x r d = subst (λ (y : Standing). Goes t 256 (stands y a.regs.r a.regs.d) x r d) q g in
      subst (Turns arm (frames t) 256 s) (sym goes) (turns arm (frames t) 256 s)

  laid : (x : Result Going Stop) {b z : List ℕ} {i n : ℕ} → Laid b i (turn_part t p x) n z → Laid b i (turn_part t (stand_of a) x) n z
  laid x {b} {z} {i} {n} l = subst (λ (y : Standing). Laid b i (turn_part t y x) n z) q l

  -- one that goes on
  pub turn-writes : (x : Going) → Goes t 256 (stands p a.regs.r a.regs.d) (Ok x) r d → {b z : List ℕ} {i n : ℕ} → Laid b i (turn_part t p (Ok x)) n z
      → TurnWrites t a b i (record { place = n; next = Some (next_at a x.next r d) }) z
  turn-writes x g l =
      let y = turning_in s (Ok x) r d in
      let e = met (Ok x) g in
      record {
        part = turn_part t (stand_of a) (Ok x);
        laid = laid (Ok x) l;
        parts = turn_on t s y e refl
            ∙ ap (λ m. m ∷ parts_at t (stands x.next r d)) (sym (append_assoc (opening a.frames) (frame_line a.frames x.frame) (region_lines t x.frame)));
        short = part_length t (stand_of a) (Ok x) (omega (arith, h.room));
        follows = record {
          same = refl;
          stands = record { checks = h.checks; table = h.table; small = turn_small t s y e refl h.small; room = turn-room t s y e refl };
          further = turn-further t s y e refl;
        };
      }

  -- the last one
  pub last-writes : (stop : Stop) → Goes t 256 (stands p a.regs.r a.regs.d) (Err stop) r d → {b z : List ℕ} {i n : ℕ} → Laid b i (turn_part t p (Err stop)) n z
      → TurnWrites t a b i (record { place = n; next = None }) z
  last-writes stop g l = record {
    part = turn_part t (stand_of a) (Err stop);
    laid = laid (Err stop) l;
    parts = rw append-nil (turn-off t s (turning_in s (Err stop) r d) (met (Err stop) g) h.room refl);
    short = part_length t (stand_of a) (Err stop) (omega (arith, h.room));
    follows = tt;
  }
