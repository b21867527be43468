-- `word_at` meets its contract.
-- Assumes nothing.
use native.Mathlib.Omega.{arith}
use Prim.Native.Nat.{◌-◌}
use mathlib.Core.Path.{◌≡◌, ap, ◌∙◌}
use Rattle.lent.specs.Little.{word32}
use Rattle.lent.proofs.word_at.Goals as goal

pub returns-then-at-low : goal.returns-then-at-low
returns-then-at-low c = let a = c.args in let z : 0 ≡ a.at - a.base = omega arith in c.word32.ensures ∙ ap (word32 a.s.now) z
