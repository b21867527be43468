-- By the table: the outline of the regions that it names, or the line of its refusal.
-- Assumes nothing.
use Prim.Native.Nat.{ℕ}
use mathlib.Core.Path.{◌≡◌, sym, ap}
use Rattle.std.specs.Prelude.{Ok, Err}
use Rattle.lent.specs.Lent.{Lent, lent}
use Rattle.regions.specs.declared.Regions.{Regions}
use Rattle.regions.specs.declared.RegionRefusal.{RegionRefusal}
use Rattle.regions.specs.Region.{regions_from}
use Rattle.regions.specs.Table.{regions_of}
use Rattle.regions.specs.AsCoded.Table.{table_of}
use Rattle.regions.proofs.Tables.{table-lists, table-denies}
use Rattle.nesting.specs.Outline.{outline}
use Rattle.text.proofs.Overlaid.{laid_as}
use Rattle.region_text.specs.RegionText.{outline_text, refused_line, regions_text}
use Rattle.region_text.proofs.put_regions.Goals as goal

module _ (x : Lent) (w a : ℕ) where
  outlined : (t : Regions) → Ok t ≡ table_of x w → outline_text 1 a (outline (regions_from x.bytes t.first 0 t.count)) ≡ regions_text a (regions_of x w)
  unfolding regions_text
  outlined t e = sym (ap (regions_text a) (table-lists x w t (sym e)))

  refused : (r : RegionRefusal) → Err r ≡ table_of x w → refused_line r ≡ regions_text a (regions_of x w)
  unfolding regions_text
  refused r e = sym (ap (regions_text a) (table-denies x w r (sym e)))

pub returns-in-Ok : goal.returns-in-Ok
returns-in-Ok c =
    let a = c.args in
    laid_as (outlined (lent a.rva a.xdata.now) a.word a.pc _ c.in-Ok.ensures.value) c.put_table.ensures

pub returns-in-Err : goal.returns-in-Err
returns-in-Err c =
    let a = c.args in
    laid_as (refused (lent a.rva a.xdata.now) a.word a.pc _ c.in-Err.ensures.value) c.put_refused.ensures
