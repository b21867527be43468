-- By the record's size; a record has one only in an .xdata that passes 1, and the table lies in that. Assumes nothing.
use mathlib.Core.Path.{◌≡◌, sym, ◌∙◌}
use native.Mathlib.Omega.{arith}
use Rattle.std.proofs.lemmas.Result.{err_from_is_err_and}
use Rattle.lent.specs.Lent.{lent}
use Rattle.regions.specs.AsCoded.Table.{table_of}
use Rattle.regions.proofs.Tables.{size-end, table-given, table-refused, table-small}
use Rattle.regions.proofs.table.Goals as goal

pub returns-in_err-bytes : goal.returns-in_err-bytes
returns-in_err-bytes c =
    let a = c.args in
    let x = lent a.rva a.xdata.now in
    let p = err_from_is_err_and c.from_residual.result c.from_residual.ensures.1 in
    let e : c.from_residual.result ≡ table_of x a.at = rw (p.1, p.2) (sym (table-refused x a.at _ (sym c.in_err-bytes.ensures))) in
    record { value = e; first_bound = rw e (table-small x a.at) }

pub table_after-requires : goal.table_after-requires
table_after-requires c =
    let a = c.args in
    omega (arith, size-end (lent a.rva a.xdata.now) a.at _ (sym c.in_ok-bytes.ensures))

pub returns : goal.returns
returns c =
    let a = c.args in
    let x = lent a.rva a.xdata.now in
    let e : c.table_after.result ≡ table_of x a.at = c.table_after.ensures ∙ sym (table-given x a.at _ (sym c.in_ok-bytes.ensures)) in
    record { value = e; first_bound = rw e (table-small x a.at) }
