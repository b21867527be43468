-- The invariant: what the codes that are left come to, from the offset that was reached, is what all come to; and offsets stay in 64 bits.
-- Assumes nothing.
use Prim.Native.Nat.{◌+◌}
use mathlib.Core.Path.{◌≡◌, refl, sym, ap, ◌∙◌}
use mathlib.Core.Bool.{true, false}
use native.Mathlib.Omega.{arith}
use Rattle.words.proofs.Tests.{if-true, if-false}
use Rattle.unwinding.proofs.Scanning.{take_next}
use Rattle.codes.specs.Code.{size, seen}
use Rattle.codes.proofs.Scanning.{takes, take-size}
use Rattle.expected.specs.Expected.{after}
use Rattle.comparing.specs.Items.{scan_coded, differs}
use Rattle.comparing.specs.AsCoded.Passes.{last_of, test, epilogue_pass}
use Rattle.comparing.proofs.Scanning.{scan-last, scan-bad}
use Rattle.comparing.proofs.Passing.{taken-listed, scan-past, epilogue-one, epilogue-none}
use Rattle.comparing.proofs.epilogue.Goals as goal

pub loop-i-init : goal.loop-i-init
loop-i-init c = (refl, omega (arith, c.requires))

pub in_epilogue-requires : goal.in_epilogue-requires
in_epilogue-requires c = taken-listed _ _ (sym c.take_at-taken.ensures ∙ c.in-One.is)

pub overflow_add-at : goal.overflow_add-at
overflow_add-at c =
    let a = c.args in
    let l = c.loop-i in
    let e = sym c.take_at-taken.ensures ∙ c.in-One.is in
    let m = take_next takes a.codes.now l.i (ap seen e) in
    omega (arith, l.invariant.1, m.far, m.near, take-size a.codes.now l.i (ap seen e), c.halfword_bytes-at.ensures.0)

pub loop-i-smaller : goal.loop-i-smaller
loop-i-smaller c =
    let a = c.args in
    let l = c.loop-i in
    let e = sym c.take_at-taken.ensures ∙ c.in-One.is in
    let m = take_next takes a.codes.now l.i (ap seen e) in
    omega (arith, m.far, m.near)

pub loop-i-preserved : goal.loop-i-preserved
loop-i-preserved c =
    let a = c.args in
    let l = c.loop-i in
    let t = c.in-One in
    let e = sym c.take_at-taken.ensures ∙ t.is in
    let s = a.code.now in
    let k = a.codes.now in
    let m = take_next takes k l.i (ap seen e) in
    let r = scan_coded k t.next in
    let met : test s l.at (after (last_of r.list r.ending) t.c) ≡ true =
    sym (c.stands.ensures ∙ ap (test s l.at) (c.in_epilogue.ensures ∙ ap (λ b. after b t.c) c.returns_at.ensures)) ∙ c.if-not-stands.false in (
      ap (λ n. epilogue_pass s (l.at + n) r.list r.ending) c.halfword_bytes-at.ensures.0
          ∙ if-true _ (differs l.at) met
          ∙ sym (epilogue-one s k l.i e l.at)
          ∙ l.invariant.0,
      omega (arith, l.invariant.1, m.far, m.near, take-size k l.i (ap seen e), c.halfword_bytes-at.ensures.0),
    )

pub returns-then-not-stands : goal.returns-then-not-stands
returns-then-not-stands c =
    let a = c.args in
    let l = c.loop-i in
    let t = c.in-One in
    let e = sym c.take_at-taken.ensures ∙ t.is in
    let s = a.code.now in
    let k = a.codes.now in
    let r = scan_coded k t.next in
    let met : test s l.at (after (last_of r.list r.ending) t.c) ≡ false =
    sym (c.stands.ensures ∙ ap (test s l.at) (c.in_epilogue.ensures ∙ ap (λ b. after b t.c) c.returns_at.ensures)) ∙ c.if-not-stands.true in
    if-false (epilogue_pass s (l.at + size t.c) r.list r.ending) _ met ∙ sym (epilogue-one s k l.i e l.at) ∙ l.invariant.0

pub returns-in-Last : goal.returns-in-Last
returns-in-Last c =
    let a = c.args in
    let l = c.loop-i in
    c.end_at.ensures
    ∙ sym (epilogue-none a.code.now a.codes.now l.i (scan-last a.codes.now l.i (sym c.take_at-taken.ensures ∙ c.in-Last.is)) l.at)
    ∙ l.invariant.0

pub returns-in-Bad : goal.returns-in-Bad
returns-in-Bad c =
    let a = c.args in
    let l = c.loop-i in
    sym (epilogue-none a.code.now a.codes.now l.i (scan-bad a.codes.now l.i (sym c.take_at-taken.ensures ∙ c.in-Bad.is)) l.at) ∙ l.invariant.0

pub returns : goal.returns
returns c =
    let a = c.args in
    let l = c.loop-i in
    sym (epilogue-none a.code.now a.codes.now l.i (scan-past a.code.now a.codes.now l.i c.loop-i-test.false) l.at) ∙ l.invariant.0
