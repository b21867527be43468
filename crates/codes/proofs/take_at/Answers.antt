-- `codes::take_at` meets its contract: each return is a law of the code at an index.
-- Assumes nothing.
use Prim.Native.Nat.{◌+◌}
use mathlib.Core.Path.{sym, ap, ◌∙◌}
use lib.ListN.{get_or, take, drop}
use native.Mathlib.Omega.{arith}
use Rattle.words.specs.Units.{code_bytes}
use Rattle.codes.specs.Table.{row_of}
use Rattle.codes.specs.Code.{value, taken}
use Rattle.codes.proofs.Rows.{row-few}
use Rattle.codes.proofs.Sorts.{entry-count, entry-halfwords}
use Rattle.codes.proofs.Taking.{take_past, take_short, take_whole}
use Rattle.codes.proofs.take_at.Goals as goal

pub returns-then-codes-i : goal.returns-then-codes-i
returns-then-codes-i c = let a = c.args in sym (take_past a.codes.now a.at.0 c.if-codes-i.true)

pub returns-then-codes-i-2 : goal.returns-then-codes-i-2
returns-then-codes-i-2 c =
    let a = c.args in
    let n = entry-count _ c.of-row.ensures in
    sym (take_short a.codes.now a.at.0 (omega arith) (omega (arith, n, c.if-codes-i-2.true)))

pub value-requires : goal.value-requires
value-requires c =
    let b = get_or c.args.codes.now c.args.at.0 0 in
    let n = entry-count b c.of-row.ensures in
    (omega (arith, n, (row-few b).some), omega (arith, n, (row-few b).most), omega arith)

pub take_as-requires : goal.take_as-requires
take_as-requires c =
    let a = c.args in
    let e = c.of-row.ensures in
    (entry-halfwords _ e, ap (λ n. code_bytes (a.at.0 + n)) (entry-count _ e))

pub returns : goal.returns
returns c =
    let a = c.args in
    let b = get_or a.codes.now a.at.0 0 in
    let n = entry-count b c.of-row.ensures in
    c.take_as.ensures
    ∙ ap (λ v. taken a.at.0 (row_of b) ((row_of b).means v))
    (c.value.ensures ∙ ap (λ k. value (take k (drop a.at.0 a.codes.now)) 0) n)
    ∙ sym (take_whole a.codes.now a.at.0 (omega arith) (omega (arith, n, c.if-codes-i.false)))
