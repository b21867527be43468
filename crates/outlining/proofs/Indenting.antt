-- Every line of regions begins with a space, so that nothing of it is left: each level is two spaces and the outermost is level 1, and a
-- refused table's line has two spaces.
-- Assumes nothing.
use Rattle.std.specs.Prelude.{if◌then◌else◌}
use Prim.Native.Nat.{ℕ, zero, suc, ◌+◌, ◌-◌, ◌*◌, ◌<◌}
use mathlib.Core.Path.{◌≡◌, refl, subst}
use mathlib.Core.Bool.{Bool, true, false}
use mathlib.Core.List.{[], ◌++◌}
use lib.ListN.{replicate}
use native.Mathlib.Omega.{arith}
use Rattle.text.specs.Text.{text, decimal}
use Rattle.regions.specs.declared.Region.{Region}
use Rattle.regions.specs.declared.RegionRefusal.{RegionRefusal}
use Rattle.regions.specs.Region.{within}
use Rattle.regions.specs.Table.{Listed, listed, denied, region_number}
use Rattle.nesting.specs.Outline.{Outline, none, region, outline}
use Rattle.region_text.specs.RegionText.{indent, mark, region_line, outline_text, refused_line, regions_text}
use Rattle.outlining.specs.Stripped.{start, dropped, stripped_from}
use Rattle.outlining.proofs.Leaving.{Leaves, Gone, then-gone, decimal-dropped, hex-dropped}

space : Leaves dropped (text " ") dropped []
unfolding stripped_from
space = record { so = λ rest. refl }

newline : Leaves dropped (text "\n") start []
unfolding stripped_from
newline = record { so = λ rest. refl }

spaces : (k : ℕ) → Leaves dropped (replicate k 0x20) dropped []
unfolding stripped_from
spaces zero = record { so = λ rest. refl }
spaces (suc k) = record { so = λ rest. (spaces k).so rest }

more-spaces : (k : ℕ) → Leaves start (replicate (suc k) 0x20) dropped []
unfolding stripped_from
more-spaces k = record { so = λ rest. (spaces k).so rest }

indented : (n : ℕ) → 0 < n → Leaves start (indent n) dropped []
indented n h =
    let e : suc (2 * n - 1) ≡ 2 * n = omega arith in
    subst (λ k. Leaves start (replicate k 0x20) dropped []) e (more-spaces (2 * n - 1))

marked : (a : ℕ) (r : Region) → Leaves dropped (mark a r) dropped []
unfolding stripped_from
marked a r = go (within a r)
  where
    go : (b : Bool) → Leaves dropped (if b then text "*" else text "-") dropped []
    go true = record { so = λ rest. refl }
    go false = record { so = λ rest. refl }

line-gone : (n a : ℕ) (r : Region) → 0 < n → Gone (region_line n a r)
line-gone n a r h =
    let front = then-gone (then-gone (indented n h) (marked a r)) space in
    let range = then-gone (then-gone (then-gone (then-gone front (hex-dropped r.begin)) space) (hex-dropped r.end)) space in
    then-gone (then-gone (then-gone (then-gone range (hex-dropped r.handler)) space) (hex-dropped r.target)) newline

outline-gone : (n a : ℕ) (o : Outline) → 0 < n → Gone (outline_text n a o)
unfolding outline_text
outline-gone n a none h = record { so = λ rest. refl }
outline-gone n a (region r i b) h = then-gone (then-gone (line-gone n a r h) (outline-gone (n + 1) a i (omega arith))) (outline-gone n a b h)

refused : Leaves start (text "  refused ") dropped []
unfolding stripped_from
refused = record { so = λ rest. refl }

refused-gone : (r : RegionRefusal) → Gone (refused_line r)
refused-gone r =
    then-gone {s = text "  refused " ++ decimal (region_number r)} {t = text "\n"}
    (then-gone {s = text "  refused "} {t = decimal (region_number r)} refused (decimal-dropped (region_number r))) newline

pub regions-gone : (a : ℕ) (l : Listed) → Gone (regions_text a l)
unfolding regions_text
regions-gone a (listed rs) = outline-gone 1 a (outline rs) (omega arith)
regions-gone a (denied r) = refused-gone r
