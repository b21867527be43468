-- The regions of a frame, by its place: at any but a leaf they are those of the record found, and nowhere does the stack count.
-- Assumes nothing.
use Rattle.std.specs.Prelude.{Result, Ok, Err}
use Prim.Native.Nat.{ℕ, ◌-◌}
use mathlib.Core.Path.{◌≡◌, refl, ap}
use mathlib.Core.Logic.{⊎_elim}
use mathlib.Core.List.{List, [], ◌∷◌, ◌++◌}
use native.Mathlib.Omega.{arith}
use denote.Enum.Declared.{tag_of}
use types.Run.{OneOf}
use Rattle.words.specs.contracts.Place.{the_type}
use Rattle.words.specs.declared.Place.{Place}
use Rattle.words.specs.declared.Place.TheVariants.{Leaf, Prologue, Body, Epilogue}
use Rattle.pdata.specs.Pdata.{find}
use Rattle.frame.specs.Frame.{Inputs, inputs}
use Rattle.walking.specs.declared.Going.{Going}
use Rattle.walking.specs.declared.Standing.{Standing}
use Rattle.walking.specs.declared.Stop.{Stop}
use Rattle.listing.specs.AsCoded.Turns.{turn_text}
use Rattle.region_text.specs.RegionText.{regions_text}
use Rattle.outlining.specs.Outlined.{regions_found, regions_at}
use Rattle.outlining.specs.AsCoded.Parts.{opening, turn_part}

pub covered : (t : Inputs) (pc : ℕ) (p : Place) → OneOf (1 ∷ 2 ∷ 3 ∷ []) (tag_of the_type p) → regions_at t pc p ≡ regions_found t (find t.image t.pdata pc)
covered t pc Leaf h = absurd (⊎_elim (λ e. omega arith) (λ k. ⊎_elim (λ e. omega arith) (λ e. omega arith) k) h)
covered t pc Prologue h = refl
covered t pc Body h = refl
covered t pc Epilogue h = refl

module _ (image : ℕ) (pdata : List ℕ) (rva : ℕ) (xdata : List ℕ) (base : ℕ) (stack : List ℕ) where
  abbrev bare : Inputs
  bare = inputs image pdata rva xdata 0 []

  abbrev whole : Inputs
  whole = inputs image pdata rva xdata base stack

  same-regions : (pc : ℕ) (p : Place) → regions_at bare pc p ≡ regions_at whole pc p
  same-regions pc Leaf = refl
  same-regions pc Prologue = refl
  same-regions pc Body = refl
  same-regions pc Epilogue = refl

  pub same-part : (s : Standing) (x : Result Going Stop) → turn_part bare s x ≡ turn_part whole s x
  same-part s (Ok x) =
      ap (λ l. opening s.frames ++ turn_text s (Ok x) ++ regions_text (x.frame.pc - image) l) (same-regions x.frame.pc x.frame.place)
  same-part s (Err stop) = refl
