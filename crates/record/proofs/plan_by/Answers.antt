-- Each field is the definition's; a length of 11 bits in halfwords fits. Assumes nothing.
use lib.Dec.{eqb}
use Rattle.record.specs.declared.Scopes.TheVariants.{Ending}
use Rattle.record.proofs.plan_by.Goals as goal

pub returns : goal.returns
returns c =
    let a = c.args in
    λ i. record { span = c.halfword_bytes.ensures.0 i; fragment = eqb a.p.flag 2; count = c.packed_epilogues.ensures i; scopes = Ending a.first; handler = 0 }
