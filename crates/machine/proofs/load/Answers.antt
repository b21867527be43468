-- `load` meets its contract: `holds` is the definition's test, and what it holds has the word at its offset.
-- Assumes nothing.
use Rattle.machine.specs.Step.{load}
use Rattle.machine.proofs.load.Goals as goal

pub returns-then-not-holds : goal.returns-then-not-holds
unfolding load
returns-then-not-holds c = simp (← c.holds.ensures, c.if-not-holds.true)

pub returns : goal.returns
unfolding load
returns c = simp (← c.holds.ensures, c.if-not-holds.false, c.word32_in.ensures)
