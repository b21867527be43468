-- The parts of what was read are the outline, and a refusal is the report's.
-- Assumes nothing.
use Rattle.text.proofs.Overlaid.{laid_as}
use Rattle.outlining.proofs.Laying.{outline-given, outline-refused}
use Rattle.outlining.proofs.Longest.{outlined-laid}
use Rattle.outlining.proofs.outline_report.Goals as goal

pub returns-in-Ok : goal.returns-in-Ok
returns-in-Ok c =
    let h = outlined-laid _ (laid_as (outline-given _ _ c.in-Ok.ensures.value) c.put_parts.ensures) in
    record { value = h.0; upper_bound = h.1 }

pub returns-in-Err : goal.returns-in-Err
returns-in-Err c =
    let h = outlined-laid _ (laid_as (outline-refused _ _ c.in-Err.ensures.value) c.put_refusal.ensures) in
    record { value = h.0; upper_bound = h.1 }
