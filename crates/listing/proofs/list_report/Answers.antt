-- The parts that were read are the report's, and a refusal is the report's.
-- Assumes nothing.
use Rattle.text.proofs.Overlaid.{laid_as}
use Rattle.report.proofs.Reading.{read-given, read-refused}
use Rattle.listing.proofs.Listed.{listing-given, listing-refused, listed}
use Rattle.listing.proofs.list_report.Goals as goal

pub returns-in-Ok : goal.returns-in-Ok
returns-in-Ok c =
    let h = listed _ (laid_as (listing-given _ (read-given _ _ c.in-Ok.ensures.value)) c.list_parts.ensures) in
    record { value = h.0; upper_bound = h.1 }

pub returns-in-Err : goal.returns-in-Err
returns-in-Err c =
    let h = listed _ (laid_as (listing-refused _ (read-refused _ _ c.in-Err.ensures.value)) c.put_refusal.ensures) in
    record { value = h.0; upper_bound = h.1 }
