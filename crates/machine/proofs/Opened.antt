-- To unfold `opened` is to unfold every definition of this crate and of those below it: for examples that compute.
use Rattle.codes.proofs.Opened as Below
use Rattle.machine.specs.Step.{load, pop_reg, pop_d, pop, vpop, step}
use Rattle.machine.specs.AsCoded.Listed.{words_listed}
use Rattle.machine.specs.AsCoded.Run.{run_at}

unfoldable pub opened : Unit {0}
unfolding Below.opened load pop_reg pop_d pop vpop step words_listed run_at
opened = tt
