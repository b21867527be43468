-- The invariant: what the codes that are left and what was found so far come to is what all come to; `left` is the offset of the instruction
-- of the code before, where the instructions of those codes end.
-- Assumes nothing.
use Rattle.std.specs.Prelude.{if◌then◌else◌}
use Prim.Native.Nat.{◌-◌}
use mathlib.Core.Path.{◌≡◌, refl, sym, ap, ap₂, ◌∙◌}
use lib.ListN.{get_or}
use native.Mathlib.Omega.{arith}
use Rattle.unwinding.specs.CodeList.{total}
use Rattle.unwinding.proofs.Scanning.{take_next}
use Rattle.codes.specs.Code.{seen}
use Rattle.codes.proofs.Scanning.{takes}
use Rattle.expected.specs.Expected.{before}
use Rattle.comparing.specs.Items.{size_of, scan_coded, differs}
use Rattle.comparing.specs.AsCoded.Passes.{test, prologue_pass}
use Rattle.comparing.proofs.Scanning.{scan-last, scan-bad}
use Rattle.comparing.proofs.Passing.{scan-past, total-one, prologue-one, prologue-none}
use Rattle.comparing.proofs.prologue.Goals as goal

pub loop-i-init : goal.loop-i-init
loop-i-init c = (c.requires, refl)

pub overflow_sub-left : goal.overflow_sub-left
overflow_sub-left c =
    let a = c.args in
    let l = c.loop-i in
    let e = sym c.take_at-taken.ensures ∙ c.in-One.is in
    omega (arith, l.invariant.0, total-one a.code.now a.codes.now l.i e, c.halfword_bytes-left.ensures.0)

pub loop-i-smaller : goal.loop-i-smaller
loop-i-smaller c =
    let a = c.args in
    let l = c.loop-i in
    let e = sym c.take_at-taken.ensures ∙ c.in-One.is in
    let m = take_next takes a.codes.now l.i (ap seen e) in
    omega (arith, m.far, m.near)

pub loop-i-preserved : goal.loop-i-preserved
loop-i-preserved c =
    let a = c.args in
    let l = c.loop-i in
    let t = c.in-One in
    let e = sym c.take_at-taken.ensures ∙ t.is in
    let s = a.code.now in
    let k = a.codes.now in
    let n = total size_of (scan_coded k t.next).list in
    let z : l.left - c.halfword_bytes-left.result ≡ n = omega (arith, l.invariant.0, total-one s k l.i e, c.halfword_bytes-left.ensures.0) in
    let met : c.stands-met.result ≡ test s n (before (get_or k l.i 0) t.c) = c.stands-met.ensures ∙ ap₂ (test s) z c.in_prologue.ensures in (
      z,
      ap (prologue_pass s (scan_coded k t.next).list) (c.noted-found.ensures ∙ ap₂ (λ m d. if m then l.found else differs d) met z)
          ∙ sym (prologue-one s k l.i e l.found)
          ∙ l.invariant.1,
    )

pub returns-in-Last : goal.returns-in-Last
returns-in-Last c =
    let a = c.args in
    let l = c.loop-i in
    sym (prologue-none a.code.now a.codes.now l.i (scan-last a.codes.now l.i (sym c.take_at-taken.ensures ∙ c.in-Last.is)) l.found) ∙ l.invariant.1

pub returns-in-Bad : goal.returns-in-Bad
returns-in-Bad c =
    let a = c.args in
    let l = c.loop-i in
    sym (prologue-none a.code.now a.codes.now l.i (scan-bad a.codes.now l.i (sym c.take_at-taken.ensures ∙ c.in-Bad.is)) l.found) ∙ l.invariant.1

pub returns : goal.returns
returns c =
    let a = c.args in
    let l = c.loop-i in
    sym (prologue-none a.code.now a.codes.now l.i (scan-past a.code.now a.codes.now l.i c.loop-i-test.false) l.found) ∙ l.invariant.1
