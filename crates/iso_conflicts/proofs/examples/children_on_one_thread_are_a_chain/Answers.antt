use Rattle.std.proofs.Common.{refl}
use Rattle.iso_plan.specs.Paths.{path}
use Rattle.std.specs.Fmt.{digits}
use Rattle.iso_conflicts.proofs.examples.children_on_one_thread_are_a_chain.Goals as goal

pub returns-clause-inside : goal.returns-clause-inside
unfolding digits path
returns-clause-inside c = refl

pub returns-clause-test : goal.returns-clause-test
unfolding digits path
returns-clause-test c = refl

pub returns-clause-forced : goal.returns-clause-forced
unfolding digits path
returns-clause-forced c = refl

pub returns-clause-apart : goal.returns-clause-apart
unfolding digits path
returns-clause-apart c = refl

pub returns-clause-root : goal.returns-clause-root
unfolding digits path
returns-clause-root c = refl

pub returns-clause-one_thread : goal.returns-clause-one_thread
unfolding digits path
returns-clause-one_thread c = refl
