use Rattle.std.proofs.Common.{refl}
use Rattle.std.specs.Fmt.{digits}
use Rattle.iso_explain_plan.proofs.examples.largest_classes_are_told.Goals as goal

pub returns-clause-nodes : goal.returns-clause-nodes
unfolding digits
returns-clause-nodes c = refl

pub returns-clause-keys : goal.returns-clause-keys
unfolding digits
returns-clause-keys c = refl

pub returns-clause-scripts : goal.returns-clause-scripts
unfolding digits
returns-clause-scripts c = refl
