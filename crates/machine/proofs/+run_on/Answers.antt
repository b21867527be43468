-- `run_on` meets its contract: by the code at the index it is the definition's first code and then the rest, and the count goes with it.
-- Assumes nothing.
use Prim.Native.Nat.{ℕ, ◌+◌}
use mathlib.Core.Path.{◌≡◌, sym, ap, ◌∙◌}
use mathlib.Core.List.{List}
use lib.ListN.{length}
use native.Mathlib.Omega.{arith}
use Rattle.words.specs.declared.CodeBytes.{CodeBytes}
use Rattle.lent.specs.Lent.{lent}
use Rattle.unwinding.proofs.Scanning.{Onward, take_next}
use Rattle.codes.specs.Code.{take_at, seen, scan}
use Rattle.codes.specs.declared.Code.{Code}
use Rattle.codes.specs.declared.Taken.TheVariants.{One}
use Rattle.codes.proofs.Scanning.{takes}
use Rattle.machine.specs.AsCoded.Answers.{regs}
use Rattle.machine.proofs.Running.{first-given, first-refused, run-last, run-bad, count-first, count-last}
use Rattle.machine.proofs.+run_on.Goals as goal

-- the index goes on by a byte or more, within the code bytes
onward : (s : List ℕ) (i : CodeBytes) (c : Code) (next : CodeBytes) → take_at s i ≡ One c next → Onward s i.0 next
onward s i c next e = take_next takes s i.0 (ap seen e)

pub overflow_add-n : goal.overflow_add-n
overflow_add-n t c = omega (arith, onward _ _ _ _ (sym c.take_at.ensures ∙ c.in-One.is), c.requires, c.well_formed)

pub run_on-requires : goal.run_on-requires
run_on-requires t c =
    let on = onward _ _ _ _ (sym c.take_at.ensures ∙ c.in-One.is) in
    (omega (arith, on), omega (arith, on, c.requires))

pub returns-in-Ok-clause-ran : goal.returns-in-Ok-clause-ran
returns-in-Ok-clause-ran t c pc =
    let a = c.args in
    let g = regs a.r.now a.sp a.lr pc a.d.now in
    rw
    (first-given (lent a.base a.stack.now) a.codes.now a.at g _ _ _ (sym c.take_at.ensures ∙ c.in-One.is)
    (sym (c.in-Ok.ensures pc)))
    (c.run_on.ensures.ran pc)

pub returns-in-Ok-clause-counted : goal.returns-in-Ok-clause-counted
returns-in-Ok-clause-counted t c =
    let s = c.args.codes.now in
    let more = count-first s _ _ _ (sym c.take_at.ensures ∙ c.in-One.is) in
    let same : c.args.n + 1 + length (scan s c.in-One.next).list ≡ c.args.n + length (scan s c.args.at).list = omega (arith, more) in
    rw same at c.run_on.ensures.counted

pub returns-in-Err-clause-ran : goal.returns-in-Err-clause-ran
returns-in-Err-clause-ran t c pc =
    let a = c.args in
    let g = regs a.r.now a.sp a.lr pc a.d.now in
    sym
    (first-refused (lent a.base a.stack.now) a.codes.now a.at g _ _ _ (sym c.take_at.ensures ∙ c.in-One.is)
    (sym (c.in-Err.ensures pc)))

pub returns-in-Last-clause-ran : goal.returns-in-Last-clause-ran
returns-in-Last-clause-ran t c pc =
    let a = c.args in
    sym (run-last (lent a.base a.stack.now) a.codes.now a.at (regs a.r.now a.sp a.lr pc a.d.now) _ (sym c.take_at.ensures ∙ c.in-Last.is))

pub returns-in-Last-clause-counted : goal.returns-in-Last-clause-counted
returns-in-Last-clause-counted t c = omega (arith, count-last _ _ _ (sym c.take_at.ensures ∙ c.in-Last.is))

pub returns-in-Bad-clause-ran : goal.returns-in-Bad-clause-ran
returns-in-Bad-clause-ran t c pc =
    let a = c.args in
    sym (run-bad (lent a.base a.stack.now) a.codes.now a.at (regs a.r.now a.sp a.lr pc a.d.now) _ (sym c.take_at.ensures ∙ c.in-Bad.is))
