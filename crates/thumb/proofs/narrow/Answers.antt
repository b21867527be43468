-- Row by row, as the code tests them. Assumes nothing.
use Prim.Native.Nat.{ℕ}
use mathlib.Core.Path.{◌≡◌, ◌∙◌}
use lib.ListN.{drop}
use Rattle.thumb.specs.Rows.{rows16, action_in}
use Rattle.thumb.proofs.Rows.{hit, miss}
use Rattle.thumb.proofs.narrow.Goals as goal
use Rattle.thumb.proofs.narrow.Goals.{Else-has, Else-has-2, Else-has-3, Else-has-4, Else-has-5, Else-has-6}

-- past so many rows, none of which is for the number
abbrev Past : (k h : ℕ) → Type 0
Past k h = action_in (drop k rows16) h ≡ action_in rows16 h

past-1 : (c : Else-has) → Past 1 c.args.h
unfolding rows16
past-1 c = miss _ _ _ c.has.ensures c.if-has.false

past-2 : (c : Else-has-2) → Past 2 c.args.h
unfolding rows16
past-2 c = miss _ _ _ c.has-2.ensures c.if-has-2.false ∙ past-1 c.before.before

past-3 : (c : Else-has-3) → Past 3 c.args.h
unfolding rows16
past-3 c = miss _ _ _ c.has-3.ensures c.if-has-3.false ∙ past-2 c.before.before

past-4 : (c : Else-has-4) → Past 4 c.args.h
unfolding rows16
past-4 c = miss _ _ _ c.has-4.ensures c.if-has-4.false ∙ past-3 c.before.before

past-5 : (c : Else-has-5) → Past 5 c.args.h
unfolding rows16
past-5 c = miss _ _ _ c.has-5.ensures c.if-has-5.false ∙ past-4 c.before.before

past-6 : (c : Else-has-6) → Past 6 c.args.h
unfolding rows16
past-6 c = miss _ _ _ c.has-6.ensures c.if-has-6.false ∙ past-5 c.before.before

pub returns-then-has : goal.returns-then-has
unfolding rows16
returns-then-has c = c.pushing.ensures ∙ rw (c.bits.ensures.0, c.bits-then-has.ensures.0) (hit _ _ _ c.has.ensures c.if-has.true)

pub returns-then-has-2 : goal.returns-then-has-2
unfolding rows16
returns-then-has-2 c = c.popping.ensures ∙ rw (c.bits-then-has-2.ensures.0, c.bits-then-has-2-2.ensures.0) (hit _ _ _ c.has-2.ensures c.if-has-2.true ∙ past-1 c.before.before.before.before.before)

pub returns-then-has-3 : goal.returns-then-has-3
unfolding rows16
returns-then-has-3 c = rw c.bits-then-has-3.ensures.0 (hit _ _ _ c.has-3.ensures c.if-has-3.true ∙ past-2 c.before.before.before)

pub returns-then-has-4 : goal.returns-then-has-4
unfolding rows16
returns-then-has-4 c = rw c.bits-then-has-4.ensures.0 (hit _ _ _ c.has-4.ensures c.if-has-4.true ∙ past-3 c.before.before.before)

pub returns-then-has-5 : goal.returns-then-has-5
unfolding rows16
returns-then-has-5 c = rw (c.bits-then-has-5.ensures.0, c.bits-then-has-5-2.ensures.0, c.bits-then-has-5-3.ensures.0) (hit _ _ _ c.has-5.ensures c.if-has-5.true ∙ past-4 c.before.before.before.before.before)

pub returns-then-has-6 : goal.returns-then-has-6
unfolding rows16
returns-then-has-6 c = rw c.bits-then-has-6.ensures.0 (hit _ _ _ c.has-6.ensures c.if-has-6.true ∙ past-5 c.before.before.before)

pub returns : goal.returns
unfolding rows16 action_in
returns c = past-6 c
