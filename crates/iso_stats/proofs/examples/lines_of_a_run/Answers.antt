use Rattle.std.proofs.Common.{refl}
use Rattle.std.specs.Fmt.{digits}
use Rattle.iso_plan.specs.Paths.{path}
use Rattle.iso_stats.proofs.examples.lines_of_a_run.Goals as goal

pub returns-clause-first : goal.returns-clause-first
unfolding digits path
returns-clause-first c = refl

pub returns-clause-waited : goal.returns-clause-waited
unfolding digits path
returns-clause-waited c = refl

pub returns-clause-chain : goal.returns-clause-chain
unfolding digits path
returns-clause-chain c = refl

pub returns-clause-best : goal.returns-clause-best
unfolding digits path
returns-clause-best c = refl
