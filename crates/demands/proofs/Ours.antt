-- The three demands, of our reader.
-- Assumes nothing.
use Rattle.std.specs.Prelude.{Ok, Err}
use Prim.Native.Nat.{ℕ, ◌≤◌}
use mathlib.Core.Path.{◌≡◌, refl, ap, ◌∙◌}
use mathlib.Core.Bool.{Bool, true, false}
use lib.ListN.{length}
use native.Mathlib.Omega.{arith}
use Rattle.words.specs.Bits.{even}
use Rattle.words.specs.Refusals.{number, verdict_number}
use Rattle.words.specs.declared.Refusal.{Refusal}
use Rattle.words.specs.Answer.{Res}
use Rattle.unwinding.proofs.Walks.{Walks, no_room, refused, last, more, walks, walk-room}
use Rattle.unwinding.specs.Extent.{of_extent}
use Rattle.unwinding.proofs.Staying.{Stays}
use Rattle.unwinding.proofs.TwoWalks.{listed-wider, walk-wider}
use Rattle.unwinding.proofs.Singly.{untouched, agree}
use Rattle.machine.specs.declared.Regs.{Regs}
use Rattle.xdata.specs.Xdata.{xdata_size}
use Rattle.frame.specs.Frame.{Inputs, Caller, frame, unwound}
use Rattle.walking.specs.Walk.{arm, frames, Trail, walk, walked_all}
use Rattle.walking.specs.declared.Stop.TheVariants as Stop
use Rattle.listing.proofs.Sizes.{listing-fits}
use Rattle.caller_text.proofs.Sizes.{caller-fits}
use Rattle.forward.specs.Demand.{Demand3}
use Rattle.forward.proofs.Framed as Framed
use Rattle.demands.specs.Reader.{ours}
use Rattle.demands.specs.Demand1.{Demand1}
use Rattle.demands.specs.Demand2.{Demand2}
use Rattle.demands.proofs.Finding.{find-laws}
use Rattle.demands.proofs.Sizing.{size-laws}
use Rattle.demands.proofs.Packing.{packed-laws}
use Rattle.demands.proofs.Walks.{walk-laws}
use Rattle.demands.proofs.Wider.{stays-frame, stays-size}
use Rattle.demands.proofs.Numbers.{numbered, up_first, up_next, found_number, size_number, word_number, codes-number}
use Rattle.demands.proofs.Whole.{whole-file}

-- ---- a frame, by what is told of it
answer-stays : (g : Regs) (x y : Res Caller) → Stays x y → of_extent (verdict_number (unwound g x).told) ≡ false → unwound g y ≡ unwound g x
answer-stays g (Ok c) y h e = ap (unwound g) (h e)
answer-stays g (Err q) y h e = ap (unwound g) (h e)

answer-refused : (g : Regs) (x : Res Caller) (r : Refusal) → (unwound g x).told ≡ Err r → x ≡ Err r
answer-refused g (Ok c) r v = absurd (let z : ◌≡◌ {A = ℕ} 0 1 = cc in omega arith)
answer-refused g (Err q) r v = cc

-- ---- the walk
walk-number : (t : Inputs) {n : ℕ} {first : Bool} {g : Regs} {w : Trail} (r : Refusal) (pc : ℕ) → Walks arm (frames t) n first g w → w.stop ≡ Stop.Refused r pc → number r ≤ 13
walk-number t r pc no_room e = absurd (let z : ◌≡◌ {A = ℕ} 0 1 = cc in omega arith)
walk-number t {first} {g} r pc (refused s q) e = let z : s ≡ r = cc in up_next first t g r (q ∙ ap Err z)
walk-number t r pc (last c q z) e = absurd (let z : ◌≡◌ {A = ℕ} 0 1 = cc in omega arith)
walk-number t r pc (more c q z below) e = walk-number t r pc below e

-- ---- the demands
pub demand1 : Demand1 ours
demand1 = record {
  frame-number = λ t g r e. (numbered r, up_first t g r (answer-refused g (frame t g) r e));
  walk-number = λ t g l r pc e. (numbered r, walk-number t r pc (walks arm (frames t) (length l) true g) e);
  find-number = found_number;
  size_number = size_number;
  word_number = word_number;
  codes-number = codes-number;
  given_back = λ t g r e. (ap (unwound g) (answer-refused g (frame t g) r e), rw e refl);
  untouched = λ t g l. untouched arm l (walk t (length l) g) (walk-room arm (frames t) (length l) true g);
  frame-stays = λ t t' g w e. answer-stays g (frame t g) (frame t' g) (stays-frame t t' w true g) e;
  walk-stays = λ t t' g l w h. ap (walked_all l) (walk-wider arm (frames t) (frames t') (stays-frame t t' w) (length l) true g (λ s r z. h r (even s.pc) z));
  listed-stay = λ t t' g l w. agree arm l (walk t (length l) g) (walk t' (length l) g) (listed-wider arm (frames t) (frames t') (stays-frame t t' w) (length l) true g);
  size-stays = λ x x' at m f h. stays-size x x' m at f h;
  whole-file = whole-file;
  list-fits = listing-fits;
  show-fits = caller-fits;
}

pub demand2 : Demand2 ours
demand2 = record {
  record_of = λ i p c. refl;
  caller = λ t g. refl;
  callers = λ t g l. refl;
  bytes = λ x at. refl;
  word = λ p. refl;
  codes = λ w. refl;
  printed = λ s. refl;
  shown = λ s. refl;
  finding = find-laws;
  sizes = size-laws;
  packed = packed-laws;
  walks = walk-laws;
}

pub demand3 : Demand3 ours.unwind
demand3 = Framed.demand3
