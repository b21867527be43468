-- `codes::size_as` meets its contract: each return is a law of the entry's sort.
-- Assumes nothing.
use Prim.Native.Nat.{◌+◌}
use mathlib.Core.Path.{sym, ◌∙◌}
use native.Mathlib.Omega.{arith}
use Rattle.codes.proofs.Sizing.{sort-0, sort-1, sort-2, second, fits_one, fits_not}
use Rattle.codes.proofs.size_as.Goals as goal

pub returns-then-sort-eq0 : goal.returns-then-sort-eq0
returns-then-sort-eq0 c =
    let a = c.args in
    let p = c.requires in
    sort-0 a.codes.now a.at.0 a.row p.0 p.1 (c.shared_slice_known-1.given a.at.0).fits c.if-sort-eq0.true

pub returns-then-sort-eq1 : goal.returns-then-sort-eq1
returns-then-sort-eq1 c =
    let a = c.args in
    let p = c.requires in
    sort-1 a.codes.now a.at.0 a.row p.0 p.1 (c.shared_slice_known-1.given a.at.0).fits c.if-sort-eq1.true

pub returns-then-sort-eq2 : goal.returns-then-sort-eq2
returns-then-sort-eq2 c =
    let a = c.args in
    let p = c.requires in
    sort-2 a.codes.now a.at.0 a.row p.0 p.1 (c.shared_slice_known-1.given a.at.0).fits c.if-sort-eq2.true

pub bounds-codes-at : goal.bounds-codes-at
bounds-codes-at c =
    let a = c.args in
    let p = c.requires in
    second a.codes.now a.at.0 a.row p.0 p.1 (c.shared_slice_known-1.given a.at.0).fits (omega arith)

pub returns-then-fits : goal.returns-then-fits
returns-then-fits c =
    let a = c.args in
    let p = c.requires in
    let known = c.shared_slice_known-1.given in
    fits_one a.codes.now a.at.0 a.row p.0 p.1 (known a.at.0).fits (omega arith) (known (a.at.0 + 1)).fits (sym c.fits.ensures ∙ c.if-fits.true)

pub returns : goal.returns
returns c =
    let a = c.args in
    let p = c.requires in
    let known = c.shared_slice_known-1.given in
    fits_not a.codes.now a.at.0 a.row p.0 p.1 (known a.at.0).fits (omega arith) (known (a.at.0 + 1)).fits (sym c.fits.ensures ∙ c.if-fits.false)
