-- Running the code list that code bytes hold from an index on as it is read. That it is `run` of the codes
-- that `codes_at` reads is a law (`run-codes` of proofs/Running.antt).
use Rattle.std.specs.Prelude.{ℕ, List, Ok}
use Rattle.lent.specs.Lent.{Lent}
use Rattle.words.specs.declared.CodeBytes.{CodeBytes}
use Rattle.words.specs.Answer.{Res, ◌>>=◌, ◌>>◌}
use Rattle.unwinding.specs.CodeList.{run}
use Rattle.codes.specs.Code.{scan}
use Rattle.machine.specs.Step.{step}
use Rattle.machine.specs.declared.Regs.{Regs}

-- the codes in turn (RULES 3.15), and then the end code (6 where there is none)
unfoldable pub run_at : Lent → List ℕ → CodeBytes → Regs → Res Regs
run_at k s i g = do
  h ← run (step k) (scan s i).list g
  (scan s i).ending
  Ok h
