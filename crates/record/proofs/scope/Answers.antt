-- By where the plan's scopes stand; the word of a listed one is in the .xdata. Assumes nothing.
use mathlib.Core.Path.{sym, ap, ◌∙◌}
use native.Mathlib.Omega.{arith}
use Rattle.record.specs.AsCoded.Plan.{scope_in}
use Rattle.xdata.specs.Scopes.{scope_of}
use Rattle.record.proofs.scope.Goals as goal

pub overflow_mul-k : goal.overflow_mul-k
overflow_mul-k c = let h = rw c.in-Listed.is at c.requires in omega (arith, h)

pub overflow_add-at : goal.overflow_add-at
overflow_add-at c = let h = rw c.in-Listed.is at c.requires in omega (arith, h)

pub word32_in-requires : goal.word32_in-requires
word32_in-requires c = let h = rw c.in-Listed.is at c.requires in omega (arith, h)

pub returns-in-Ending : goal.returns-in-Ending
returns-in-Ending c =
    let a = c.args in
    ap (λ s. scope_in s a.xdata.now a.k) (sym c.in-Ending.is)

pub returns-in-Listed : goal.returns-in-Listed
returns-in-Listed c =
    let a = c.args in
    c.scope_of.ensures
    ∙ ap scope_of c.word32_in.ensures
    ∙ ap (λ s. scope_in s a.xdata.now a.k) (sym c.in-Listed.is)
