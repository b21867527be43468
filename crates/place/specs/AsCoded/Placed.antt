-- Where an offset stands in a record, as the code answers it. That a frame by it is a frame by the record's shape is a law
-- (frame/proofs/Records.antt).
use Rattle.std.specs.Prelude.{ℕ, List, ltb, if◌then◌else◌, Option, Some, None, Ok}
use Rattle.lent.specs.Lent.{Lent}
use Rattle.words.specs.Answer.{Res, ◌>>=◌}
use Rattle.record.specs.AsCoded.Plan.{scopes_from, read_of, codes_in}
use Rattle.record.specs.declared.Plan.{Plan}
use Rattle.record.specs.declared.Record.{Record}
use Rattle.place.specs.AsCoded.Look.{spot_of}
use Rattle.place.specs.declared.Spot.{Spot}
use Rattle.place.specs.declared.Placed.{Placed}
use Rattle.place.specs.declared.AnyPlaced.{AnyPlaced}

abbrev pub covered : (handler : ℕ) → Spot → Option Placed
covered h s = Some (record { place = s.place; index = s.index; handler = h })

-- by a record's plan and code bytes; its function covers the offset or does not (RULES 5.2)
abbrev pub spot_in : Plan → (codes xdata : List ℕ) → (offset : ℕ) → Res Spot
spot_in p s x o = spot_of s p.span p.fragment (scopes_from p.scopes x 0 p.count) o

abbrev pub in_plan : Plan → (codes xdata : List ℕ) → (offset : ℕ) → Res (Option Placed)
in_plan p s x o = if ltb o p.span then (spot_in p s x o >>= λ q. Ok (covered p.handler q)) else Ok None

-- by a record that was read, with what is told beside a refusal too
abbrev pub placed_in : (xdata : List ℕ) → Record → (offset : ℕ) → AnyPlaced
placed_in x f o =
    record { at = in_plan f.plan (codes_in f.codes x) x o; covers = ltb o f.plan.span; handler = if ltb o f.plan.span then f.plan.handler else 0; codes = f.codes }

-- by word 1 of a .pdata record
abbrev pub any_placed : Lent → (word offset : ℕ) → Res AnyPlaced
any_placed x w o = read_of x w >>= λ f. Ok (placed_in x.bytes f o)
