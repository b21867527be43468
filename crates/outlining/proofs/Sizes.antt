-- The largest part: a heading, a frame's line or the last one, and the regions of one record.
-- Assumes nothing.
use Rattle.std.specs.Prelude.{if◌then◌else◌, Option, None, Some, Result, Ok, Err}
use Prim.Native.Nat.{ℕ, ◌≤◌, ◌<◌}
use mathlib.Core.Bool.{Bool, true, false}
use mathlib.Core.List.{List, [], ◌++◌}
use lib.Dec.{eqb}
use lib.ListN.{length, length-append}
use native.Mathlib.Omega.{arith}
use Rattle.words.specs.Bits.{bits}
use Rattle.words.specs.declared.Place.{Place}
use Rattle.words.specs.declared.Place.TheVariants.{Leaf, Prologue, Body, Epilogue}
use Rattle.words.specs.Answer.{Res}
use Rattle.pdata.specs.declared.Entry.{Entry}
use Rattle.pdata.specs.Pdata.{find}
use Rattle.frame.specs.Frame.{Inputs}
use Rattle.walking.specs.declared.Going.{Going}
use Rattle.walking.specs.declared.Standing.{Standing}
use Rattle.walking.specs.declared.Stop.{Stop}
use Rattle.text.proofs.Numbers.{decimal-limit}
use Rattle.listing.specs.Listing.{frame_line, last_of}
use Rattle.listing.proofs.Sizes.{stop-length, frame-length}
use Rattle.regions.specs.Table.{listed, regions_of}
use Rattle.region_text.specs.RegionText.{regions_text}
use Rattle.region_text.proofs.Nothing.{no-regions}
use Rattle.region_text.proofs.Sizes.{regions-fit}
use Rattle.outlining.specs.Outlined.{heading, regions_by, regions_found, regions_at, region_lines}
use Rattle.outlining.specs.AsCoded.Parts.{opening, turn_part}

-- the regions of a record, of what was found, of a frame
none-fit : (a : ℕ) → length (regions_text a (listed [])) ≤ 10700
none-fit a = rw (no-regions a) (omega arith)

by-fit : (a : ℕ) (t : Inputs) (e : Entry) → length (regions_text a (regions_by t e)) ≤ 10700
by-fit a t e = go (eqb (bits 0 2 e.word) 0)
  where
    go : (b : Bool) → length (regions_text a (if b then regions_of t.xdata e.word else listed [])) ≤ 10700
    go true = regions-fit a t.xdata e.word
    go false = none-fit a

found-fit : (a : ℕ) (t : Inputs) (found : Res (Option Entry)) → length (regions_text a (regions_found t found)) ≤ 10700
found-fit a t (Err r) = none-fit a
found-fit a t (Ok None) = none-fit a
found-fit a t (Ok (Some e)) = by-fit a t e

pub at-fit : (a : ℕ) (t : Inputs) (pc : ℕ) (p : Place) → length (regions_text a (regions_at t pc p)) ≤ 10700
at-fit a t pc Leaf = none-fit a
at-fit a t pc Prologue = found-fit a t (find t.image t.pdata pc)
at-fit a t pc Body = found-fit a t (find t.image t.pdata pc)
at-fit a t pc Epilogue = found-fit a t (find t.image t.pdata pc)

-- the other pieces
opening-length : (n : ℕ) → length (opening n) ≤ 18
opening-length n = go (eqb n 0)
  where
    go : (b : Bool) → length (if b then heading else []) ≤ 18
    go true = omega arith
    go false = omega arith

pub last-length : (s : Stop) (n k : ℕ) → length (last_of s n k) ≤ 99
last-length s n k = simp length-append (omega (arith, stop-length s, decimal-limit n, decimal-limit k))

pub part_length : (t : Inputs) (s : Standing) (x : Result Going Stop) → s.frames < 1000 → length (turn_part t s x) ≤ 12288
part_length t s x h = go x
  where
    n : ℕ
    n = s.frames

    of : (m l : List ℕ) → length m ≤ 99 → length l ≤ 10700 → length (opening n ++ m ++ l) ≤ 12288
    of m l b c = omega (arith, length-append (opening n ++ m) l, length-append (opening n) m, opening-length n)

    go : (x : Result Going Stop) → length (turn_part t s x) ≤ 12288
    go (Ok y) = of (frame_line n y.frame) (region_lines t y.frame) (omega (arith, frame-length n y.frame h)) (at-fit _ t y.frame.pc y.frame.place)
    go (Err stop) = of (last_of stop n s.codes) [] (last-length stop n s.codes) (omega arith)
