-- `holds` meets its contract.
-- Assumes nothing.
use native.Mathlib.Omega.{arith}
use Prim.Native.Nat.{◌+◌, ◌-◌, ◌≤◌}
use mathlib.Core.Path.{sym, ◌∙◌}
use lib.ListN.{length}
use borrow.Author.Tests.{lt-leb}
use Rattle.words.proofs.Tests.{leb-same}
use Rattle.lent.proofs.Laws.{holds-below, holds-above}
use Rattle.lent.proofs.holds.Goals as goal

pub returns-then-at-low : goal.returns-then-at-low
returns-then-at-low c = let a = c.args in holds-below a.base a.s.now a.at a.n c.if-at-low.true

pub returns-then-len-at : goal.returns-then-len-at
returns-then-len-at c = let a = c.args in let b : a.base ≤ a.at = c.if-at-low.false in sym (lt-leb (a.at + a.n) (a.base + length a.s.now) (omega arith)) ∙ holds-above a.base a.s.now a.at a.n b

pub returns : goal.returns
returns c = let a = c.args in let b : a.base ≤ a.at = c.if-at-low.false in leb-same a.n (length a.s.now - (a.at - a.base)) (a.at + a.n) (a.base + length a.s.now) (λ h. omega arith) (λ h. omega arith) ∙ holds-above a.base a.s.now a.at a.n b
