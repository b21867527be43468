-- A row that is for a number says what its instruction does, and one that is not leaves that to the rows behind it.
-- Assumes nothing.
use Prim.Native.Nat.{ℕ}
use mathlib.Core.Path.{◌≡◌, sym, ◌∙◌}
use mathlib.Core.Bool.{Bool, true, false}
use mathlib.Core.List.{List, ◌∷◌}
use Rattle.words.proofs.Tests.{if-true, if-false}
use Rattle.thumb.specs.Rows.{Row, is_for, action_in}

module _ (r : Row) (rs : List Row) (w : ℕ) {t : Bool} (e : t ≡ is_for r w) where
  pub hit : t ≡ true → r.means w ≡ action_in (r ∷ rs) w
  unfolding action_in
  hit h = if-true _ _ (sym e ∙ h)

  pub miss : t ≡ false → action_in rs w ≡ action_in (r ∷ rs) w
  unfolding action_in
  miss h = if-false _ _ (sym e ∙ h)
