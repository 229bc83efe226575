use Rattle.std.proofs.Common.{refl}
use Rattle.iso_plan.specs.Paths.{path}
use Rattle.iso_critical.proofs.examples.nodes_wait_for_others.Goals as goal

pub returns-clause-waited : goal.returns-clause-waited
unfolding path
returns-clause-waited c = refl

pub returns-clause-alone : goal.returns-clause-alone
unfolding path
returns-clause-alone c = refl
