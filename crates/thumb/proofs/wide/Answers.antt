-- Row by row, as the code tests them. Assumes nothing.
use Prim.Native.Nat.{ℕ}
use mathlib.Core.Path.{◌≡◌, ◌∙◌}
use lib.ListN.{drop}
use Rattle.thumb.specs.Rows.{rows32, action_in}
use Rattle.thumb.proofs.Rows.{hit, miss}
use Rattle.thumb.proofs.wide.Goals as goal
use Rattle.thumb.proofs.wide.Goals.{Else-has, Else-has-2, Else-has-3, Else-has-4, Else-has-5, Else-has-6, Else-has-7, Else-has-8}

-- past so many rows, none of which is for the number
abbrev Past : (k w : ℕ) → Type 0
Past k w = action_in (drop k rows32) w ≡ action_in rows32 w

past-1 : (c : Else-has) → Past 1 c.args.w
unfolding rows32
past-1 c = miss _ _ _ c.has.ensures c.if-has.false

past-2 : (c : Else-has-2) → Past 2 c.args.w
unfolding rows32
past-2 c = miss _ _ _ c.has-2.ensures c.if-has-2.false ∙ past-1 c.before.before

past-3 : (c : Else-has-3) → Past 3 c.args.w
unfolding rows32
past-3 c = miss _ _ _ c.has-3.ensures c.if-has-3.false ∙ past-2 c.before.before

past-4 : (c : Else-has-4) → Past 4 c.args.w
unfolding rows32
past-4 c = miss _ _ _ c.has-4.ensures c.if-has-4.false ∙ past-3 c.before.before

past-5 : (c : Else-has-5) → Past 5 c.args.w
unfolding rows32
past-5 c = miss _ _ _ c.has-5.ensures c.if-has-5.false ∙ past-4 c.before.before

past-6 : (c : Else-has-6) → Past 6 c.args.w
unfolding rows32
past-6 c = miss _ _ _ c.has-6.ensures c.if-has-6.false ∙ past-5 c.before.before

past-7 : (c : Else-has-7) → Past 7 c.args.w
unfolding rows32
past-7 c = miss _ _ _ c.has-7.ensures c.if-has-7.false ∙ past-6 c.before.before

past-8 : (c : Else-has-8) → Past 8 c.args.w
unfolding rows32
past-8 c = miss _ _ _ c.has-8.ensures c.if-has-8.false ∙ past-7 c.before.before

pub returns-then-has : goal.returns-then-has
unfolding rows32
returns-then-has c = c.pushing.ensures ∙ rw c.bits.ensures.0 (hit _ _ _ c.has.ensures c.if-has.true)

pub returns-then-has-2 : goal.returns-then-has-2
unfolding rows32
returns-then-has-2 c = c.push_one.ensures ∙ hit _ _ _ c.has-2.ensures c.if-has-2.true ∙ past-1 c.before.before.before

pub returns-then-has-3 : goal.returns-then-has-3
unfolding rows32
returns-then-has-3 c = c.popping.ensures ∙ rw c.bits-then-has-3.ensures.0 (hit _ _ _ c.has-3.ensures c.if-has-3.true ∙ past-2 c.before.before.before.before)

pub returns-then-has-4 : goal.returns-then-has-4
unfolding rows32
returns-then-has-4 c = c.pop_one.ensures ∙ hit _ _ _ c.has-4.ensures c.if-has-4.true ∙ past-3 c.before.before.before

pub returns-then-has-5 : goal.returns-then-has-5
unfolding rows32
returns-then-has-5 c = c.sub_modified.ensures ∙ hit _ _ _ c.has-5.ensures c.if-has-5.true ∙ past-4 c.before.before.before

pub returns-then-has-6 : goal.returns-then-has-6
unfolding rows32
returns-then-has-6 c = rw c.imm12.ensures.0 (hit _ _ _ c.has-6.ensures c.if-has-6.true ∙ past-5 c.before.before.before)

pub returns-then-has-7 : goal.returns-then-has-7
unfolding rows32
returns-then-has-7 c = c.add_modified.ensures ∙ hit _ _ _ c.has-7.ensures c.if-has-7.true ∙ past-6 c.before.before.before

pub returns-then-has-8 : goal.returns-then-has-8
unfolding rows32
returns-then-has-8 c = rw c.imm12-then-has-8.ensures.0 (hit _ _ _ c.has-8.ensures c.if-has-8.true ∙ past-7 c.before.before.before)

pub returns : goal.returns
unfolding rows32
returns c = c.wide_more.ensures ∙ past-8 c.before
