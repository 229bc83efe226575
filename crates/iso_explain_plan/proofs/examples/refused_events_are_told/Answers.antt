use Rattle.std.proofs.Common.{refl}
use Rattle.std.specs.Fmt.{digits}
use Rattle.iso_plan.specs.Paths.{path}
use Rattle.iso_explain_plan.proofs.examples.refused_events_are_told.Goals as goal

pub returns-clause-locked : goal.returns-clause-locked
unfolding digits path
returns-clause-locked c = refl

pub returns-clause-worker : goal.returns-clause-worker
unfolding digits path
returns-clause-worker c = refl

pub returns-clause-node : goal.returns-clause-node
unfolding digits path
returns-clause-node c = refl

pub returns-clause-busy : goal.returns-clause-busy
unfolding digits path
returns-clause-busy c = refl

pub returns-clause-owner : goal.returns-clause-owner
unfolding digits path
returns-clause-owner c = refl

pub returns-clause-sibling : goal.returns-clause-sibling
unfolding digits path
returns-clause-sibling c = refl

pub returns-clause-root : goal.returns-clause-root
unfolding digits path
returns-clause-root c = refl

pub returns-clause-body : goal.returns-clause-body
unfolding digits path
returns-clause-body c = refl

pub returns-clause-shut : goal.returns-clause-shut
unfolding digits path
returns-clause-shut c = refl
