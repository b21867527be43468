-- The record that covers a pc (RULES 5.2): the one found, if its function is longer than the pc's offset in it. A frame's regions are those of
-- the record that covers its pc, or none (`walk-regioned` of proofs/Covering.antt).
use Rattle.std.specs.Prelude.{ℕ, ◌-◌, ◌<◌, ◌≡◌, ◌≢◌, [], Some, Ok}
use Rattle.words.specs.Bits.{even}
use Rattle.words.specs.declared.Place.TheVariants.{Leaf}
use Rattle.unwinding.specs.Shape.{Shape}
use Rattle.pdata.specs.declared.Entry.{Entry}
use Rattle.pdata.specs.Pdata.{find}
use Rattle.record.specs.Record.{shape_of}
use Rattle.frame.specs.Frame.{Inputs}
use Rattle.walking.specs.declared.Frame.{Frame}
use Rattle.regions.specs.Table.{listed}
use Rattle.outlining.specs.Outlined.{regions_by, regions_at}

-- the pc's offset in the function of a record (RULES 5.1)
abbrev pub offset_in : Inputs → (pc : ℕ) → Entry → ℕ
offset_in t pc e = even pc - t.image - e.start

pub record Covers (t : Inputs) (pc : ℕ) (e : Entry) : Type 0 where
  pub found : find t.image t.pdata pc ≡ Ok (Some e)
  pub shape : Shape
  pub read : shape_of t.xdata e ≡ Ok shape
  pub inside : offset_in t pc e < shape.span

-- a frame that a record covers is no leaf and has that record's regions; one that none covers is a leaf and has none
pub data Regioned (t : Inputs) (f : Frame) : Type 0 where
  covered : (e : Entry) → Covers t f.pc e → f.place ≢ Leaf → regions_at t f.pc f.place ≡ regions_by t e → Regioned t f
  bare : ((e : Entry) → Covers t f.pc e → ⊥) → f.place ≡ Leaf → regions_at t f.pc f.place ≡ listed [] → Regioned t f
