-- The refusals that are about how much is lent: 1, 5 and 8. An answer that is given has number 0.
use Rattle.std.specs.Prelude.{ℕ, Bool, ◌||◌, eqb}

abbrev pub of_extent : ℕ → Bool
of_extent n = eqb n 1 || eqb n 5 || eqb n 8
