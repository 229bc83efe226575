use Rattle.std.proofs.Common.{refl}
use Rattle.std.specs.Fmt.{digits}
use Rattle.iso_plan.specs.Paths.{path}
use Rattle.iso_stats.proofs.examples.parts_of_times.Goals as goal

pub returns-clause-busy : goal.returns-clause-busy
unfolding digits path
returns-clause-busy c = refl

pub returns-clause-cut : goal.returns-clause-cut
unfolding digits path
returns-clause-cut c = refl

pub returns-clause-whole : goal.returns-clause-whole
unfolding digits path
returns-clause-whole c = refl

pub returns-clause-unmeasured : goal.returns-clause-unmeasured
unfolding digits path
returns-clause-unmeasured c = refl

pub returns-clause-unstarted : goal.returns-clause-unstarted
unfolding digits path
returns-clause-unstarted c = refl

pub returns-clause-chain : goal.returns-clause-chain
unfolding digits path
returns-clause-chain c = refl

pub returns-clause-workers : goal.returns-clause-workers
unfolding digits path
returns-clause-workers c = refl

pub returns-clause-nothing : goal.returns-clause-nothing
unfolding digits path
returns-clause-nothing c = refl
