-- The walk printed turn by turn is the walk printed: what holds wherever a turn begins, how a turn keeps it, and what it says at the end.
-- Assumes nothing.
use Rattle.std.specs.Prelude.{Result, Ok, Err}
use Prim.Native.Nat.{ℕ, ◌+◌, ◌-◌, ◌<◌}
use mathlib.Core.Path.{◌≡◌, refl, sym, ap, ◌∙◌, subst}
use mathlib.Core.List.{List, [], ◌∷◌, ◌++◌}
use lib.ListN.{length, replicate, set}
use native.Mathlib.Omega.{arith}
use Rattle.words.specs.declared.Place.TheVariants.{Leaf}
use Rattle.unwinding.specs.AsCoded.Turn as General
use Rattle.unwinding.proofs.Turns.{Turns, turns}
use Rattle.unwinding.proofs.Looping.{Midway, less, midway-begins, midway-on, fewer, ended-with}
use Rattle.machine.specs.declared.Regs.{Regs}
use Rattle.frame.specs.Frame.{Inputs}
use Rattle.walking.specs.declared.Frame.{Frame}
use Rattle.walking.specs.declared.Going.{Going}
use Rattle.walking.specs.declared.Standing.{Standing}
use Rattle.walking.specs.declared.Stop.{Stop}
use Rattle.walking.specs.Walk.{arm, frames, walk}
use Rattle.walking.specs.AsCoded.InPlace.{stands, turning_in, SmallIn, Goes}
use Rattle.walking.proofs.Turns.{bounded}
use Rattle.text.specs.Text.{text}
use Rattle.text.specs.Overlay.{Laid}
use Rattle.text.proofs.Overlaid.{joined, laid_as}
use Rattle.listing.specs.Listing.{frame_line, frame_lines, last_of, last_line, printed}
use Rattle.listing.proofs.Lines.{lines-last}

-- a list with the room of the walk, of which the laws of the walk into a list speak
abbrev room : List Frame
room = replicate 256 (record { pc = 0; sp = 0; place = Leaf })

-- where a turn begins: so many turns are left, and the lines of the frames so far are laid behind a place of a buffer
pub record Halfway (t : Inputs) (g : Regs) (s : General.Standing arm) (b : List ℕ) (at next : ℕ) (o : List ℕ) : Type 0 where
  pub left : ℕ
  pub listed : List Frame
  pub list : List Frame
  pub walks : Midway arm (frames t) 1020 g room left s listed list
  pub laid : Laid b at (frame_lines 0 listed) next o

pub printing-begins : (t : Inputs) (s : General.Standing arm) (b : List ℕ) (i : ℕ) → s ≡ General.begun arm s.at → Laid b i [] i b → Halfway t s.at s b i i b
unfolding frame_lines
printing-begins t s b i e h = record {
  left = 256;
  listed = [];
  list = room;
  walks = subst (λ (z : General.Standing arm). Midway arm (frames t) 1020 s.at room 256 z [] room) (sym e) (midway-begins arm (frames t) 1020 s.at room);
  laid = h;
}

-- behind the heading it is the walk printed
pub printing-headed : (t : Inputs) (g : Regs) {b o o' : List ℕ} {i n : ℕ} → Laid b 0 (text "frame pc sp place\n") i o → Laid o i (frame_lines 0 (walk t 256 g).frames ++ last_line (walk t 256 g)) n o' → Laid b 0 (printed (walk t 256 g)) n o'
unfolding printed
printing-headed t g h k = joined h k

pub printing-small : (t : Inputs) (g : Regs) {s : General.Standing arm} {b : List ℕ} {i n : ℕ} {o : List ℕ} → Halfway t g s b i n o → SmallIn s
printing-small t g h = h.walks.small

module _ (t : Inputs) (g : Regs) (p : Standing) (r d : List ℕ) {b : List ℕ} {f n : ℕ} {o : List ℕ} (h : Halfway t g (stands p r d) b f n o) where
  abbrev s : General.Standing arm
  s = stands p r d

  met : (x : Result Going Stop) (a e : List ℕ) → Goes t 256 s x a e → Turns arm (frames t) 256 s (turning_in s x a e)
  met x a e k = subst (Turns arm (frames t) 256 s) (sym k) (turns arm (frames t) 256 s)

  -- a turn that goes on
  module _ (x : Going) (a e : List ℕ) (k : Goes t 256 s (Ok x) a e) where
    abbrev y : General.Turn arm
    y = turning_in s (Ok x) a e

    pub printing-on : {m : ℕ} {u : List ℕ} → Laid o n (frame_line p.frames x.frame) m u → Halfway t g (stands x.next a e) b f m u
    printing-on {m = m} {u = u} l =
        let i : p.frames ≡ 0 + length h.listed = omega (arith, h.walks.many) in
        record {
          left = less h.left;
          listed = h.listed ++ (x.frame ∷ []);
          list = set h.list p.frames x.frame;
          walks = midway-on arm (frames t) 1020 h.walks y (met (Ok x) a e k) refl (bounded t);
          laid = laid_as (ap (λ j. frame_lines 0 h.listed ++ frame_line j x.frame) i ∙ lines-last 0 h.listed x.frame) (joined h.laid l);
        }

    pub printing-less : 256 - x.next.frames < 256 - p.frames
    printing-less =
        let w = midway-on arm (frames t) 1020 h.walks y (met (Ok x) a e k) refl (bounded t) in
        omega (arith, w.room, h.walks.room, fewer arm (frames t) 1020 h.walks y (met (Ok x) a e k) refl)

  -- one that does not
  pub printing-ends : (stop : Stop) (a e : List ℕ) → Goes t 256 s (Err stop) a e → {m : ℕ} {u : List ℕ} → Laid o n (last_of stop p.frames p.codes) m u
      → Laid b f (frame_lines 0 (walk t 256 g).frames ++ last_line (walk t 256 g)) m u
  printing-ends stop a e k l =
      let w = ended-with arm (frames t) 1020 h.walks (turning_in s (Err stop) a e) (met (Err stop) a e k) refl in
      rw w (laid_as (ap (λ i. frame_lines 0 h.listed ++ last_of stop i p.codes) (sym h.walks.many)) (joined h.laid l))
