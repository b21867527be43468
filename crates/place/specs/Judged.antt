-- 4 to 7 for word 1 of a .pdata record, without a pc (RULES 9.51, 9.52, 9.54): its record's view.
use Rattle.std.specs.Prelude.{ℕ}
use Rattle.words.specs.Answer.{Res, ◌>>=◌}
use Rattle.lent.specs.Lent.{Lent}
use Rattle.unwinding.specs.View.{View, view}
use Rattle.codes.specs.Code.{size, codes_at}
use Rattle.codes.specs.declared.Code.{Code}
use Rattle.record.specs.Record.{shape_at}

abbrev pub view_at : Lent → (word : ℕ) → Res (View Code)
view_at x w = shape_at x w >>= view size codes_at
