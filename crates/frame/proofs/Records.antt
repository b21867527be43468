-- The caller by the record found, of either kind, from where an offset stands in it.
-- Assumes nothing.
use Rattle.std.specs.Prelude.{if◌then◌else◌, None, Ok, Err}
use Prim.Native.Nat.{ℕ, ◌≤◌}
use mathlib.Core.Path.{◌≡◌, refl, sym, ap, ◌∙◌}
use mathlib.Core.List.{List}
use mathlib.Core.Bool.{Bool, true, false}
use lib.ListN.{length}
use lib.Dec.{ltb}
use Rattle.lent.specs.Lent.{Lent, lent}
use Rattle.words.specs.Answer.{Res, ◌>>=◌}
use Rattle.unwinding.specs.Shape.{Shape}
use Rattle.machine.specs.declared.Regs.{Regs}
use Rattle.record.specs.AsCoded.Plan.{shape_by, codes_in, codes_end, read_of, read_shape}
use Rattle.record.proofs.Shapes.{read-shape, read-inside}
use Rattle.place.specs.AsCoded.Placed.{covered, placed_in, any_placed}
use Rattle.place.proofs.Answered.{placed-codes}
use Rattle.place.specs.declared.AnyPlaced.{AnyPlaced}
use Rattle.place.specs.declared.Spot.{Spot}
use Rattle.record.specs.declared.Record.{Record}
use Rattle.frame.specs.Frame.{Caller, uncovered, within}
use Rattle.frame.specs.AsCoded.FromPlace.{ran_from, from_placed, by_word}
use Rattle.frame.proofs.Within.{spot_in, within-placed}

module _ (first : Bool) (k : Lent) (g : Regs) (o : ℕ) where
  abbrev in_shape : Shape → Res Caller
  in_shape s = if ltb o s.span then within k s o g else uncovered first g

  by-cover :
      (sh : Shape) (t : Bool)
      → (if t then within k sh o g else uncovered first g)
      ≡ ((if t then (spot_in sh o >>= λ q. Ok (covered sh.handler q)) else Ok None) >>= from_placed first k sh.codes g)
  by-cover sh true = within-placed k sh o g ∙ go (spot_in sh o)
    where
      go : (x : Res Spot) → (x >>= λ p. ran_from k sh.codes sh.handler g p.place p.index) ≡ (x >>= (λ q. Ok (covered sh.handler q)) >>= from_placed first k sh.codes g)
      go (Ok p) = refl
      go (Err r) = refl
  by-cover sh false = refl

  module _ (x : List ℕ) where
    -- from where the offset stands in a record of either kind, with its code bytes
    abbrev pub from : AnyPlaced → Res Caller
    from p = p.at >>= from_placed first k (codes_in p.codes x) g

    by-read : (r : Res Record) → (r >>= (λ f. Ok (placed_in x f o)) >>= from) ≡ (read_shape x r >>= in_shape)
    by-read (Ok f) = sym (by-cover (shape_by f.plan (codes_in f.codes x) x) (ltb o f.plan.span))
    by-read (Err r) = refl

    pub word-placed : (b w : ℕ) → (any_placed (lent b x) w o >>= from) ≡ by_word first (lent b x) w k o g
    word-placed b w = by-read (read_of (lent b x) w) ∙ sym (ap (λ r. r >>= in_shape) (read-shape b x w))

-- the part of the .xdata that holds the code bytes lies in it
pub codes-inside :
    (b : ℕ) (x : List ℕ) (w o : ℕ) (q : AnyPlaced) → Ok q ≡ any_placed (lent b x) w o → codes_end q.codes ≤ length x
codes-inside b x w o q is = let u = placed-codes x (read_of (lent b x) w) o q is in rw u.2 (read-inside b x w u.0 u.1)
