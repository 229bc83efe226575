use Rattle.std.proofs.Common.{refl}
use Rattle.iso_plan.specs.Paths.{path}
use Rattle.std.specs.Fmt.{digits}
use Rattle.iso_github.proofs.examples.texts_are_escaped.Goals as goal

pub returns-clause-message : goal.returns-clause-message
unfolding digits path
returns-clause-message c = refl

pub returns-clause-property : goal.returns-clause-property
unfolding digits path
returns-clause-property c = refl

pub returns-clause-as_they_are : goal.returns-clause-as_they_are
unfolding digits path
returns-clause-as_they_are c = refl

pub returns-clause-again : goal.returns-clause-again
unfolding digits path
returns-clause-again c = refl
