use Rattle.iso_plan.specs.Locks.{locks}
use Rattle.iso_waits.proofs.CoverLemmas.{few}
use Rattle.iso_waits.specs.AllWaits.{wait_for}
use Rattle.iso_waits.specs.Waits.{waits}
use Rattle.iso_waits.proofs.laws.waits_are_no_more_than_locks.Goals as goal

pub returns : goal.returns
returns c tree settings bodies n = few (λ l. wait_for tree n (waits tree settings bodies n) l.key) (locks tree n)
