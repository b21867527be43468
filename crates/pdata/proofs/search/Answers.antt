-- The loop's invariant: the record below `low` starts at or below the RVA, and that at `high` above it; where the two meet, an ascending table
-- has the definition's record there. Assumes nothing.
use Rattle.std.specs.Prelude.{Some}
use Prim.Native.Nat.{◌+◌, ◌-◌, ◌*◌, ◌/◌, ◌≤◌}
use mathlib.Core.Path.{sym, ap, ◌∙◌, ◌≡◌}
use native.Mathlib.Omega.{arith}
use Rattle.words.specs.Bits.{even}
use Rattle.lent.specs.Little.{word32}
use Rattle.pdata.proofs.Finding.{start_at, found_none, found_some, start-up-to, start-above}
use Rattle.pdata.proofs.search.Goals as goal

pub loop-low-preserved-then-word32_in-top : goal.loop-low-preserved-then-word32_in-top
loop-low-preserved-then-word32_in-top c =
    let a = c.args in
    let l = c.loop-low in
    let mid = l.low + (l.high - l.low) / 2 in
    let e : mid + 1 - 1 ≡ mid = omega arith in
    let below : start_at a.pdata.now mid ≤ even a.rva = start-up-to (word32 a.pdata.now (8 * mid)) a.rva (omega (arith, c.if-word32_in-top.true, c.word32_in.ensures, c.even-top.ensures)) in
    (omega arith, omega arith, λ q. rw e (omega (arith, below)), l.invariant.3)

pub loop-low-preserved : goal.loop-low-preserved
loop-low-preserved c =
    let a = c.args in
    let l = c.loop-low in
    let mid = l.low + (l.high - l.low) / 2 in
    (omega arith, omega arith, l.invariant.2, λ q. start-above (word32 a.pdata.now (8 * mid)) a.rva (omega (arith, c.if-word32_in-top.false, c.word32_in.ensures, c.even-top.ensures)))

pub returns-then-low-eq0 : goal.returns-then-low-eq0
returns-then-low-eq0 c up =
    let a = c.args in
    let l = c.loop-low in
    let z : l.high ≡ 0 = omega arith in
    sym (found_none a.pdata.now a.rva up (λ q. rw z at (l.invariant.3 (omega arith))))

pub returns : goal.returns
returns c up =
    let a = c.args in
    let l = c.loop-low in
    let e : l.low - 1 + 1 ≡ l.high = omega arith in
    ap Some c.entry_in.ensures
    ∙ sym (found_some a.pdata.now a.rva (l.low - 1) (omega arith) up (l.invariant.2 (omega arith)) (λ q. rw e (l.invariant.3 (omega arith))))
