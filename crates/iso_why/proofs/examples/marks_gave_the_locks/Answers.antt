use Rattle.std.proofs.Common.{refl}
use Rattle.iso_plan.specs.Paths.{path}
use Rattle.std.specs.Fmt.{digits}
use Rattle.iso_why.proofs.examples.marks_gave_the_locks.Goals as goal

pub returns-clause-writer : goal.returns-clause-writer
unfolding digits path
returns-clause-writer c = refl

pub returns-clause-readers : goal.returns-clause-readers
unfolding digits path
returns-clause-readers c = refl

pub returns-clause-below : goal.returns-clause-below
unfolding digits path
returns-clause-below c = refl

pub returns-clause-isolated : goal.returns-clause-isolated
unfolding digits path
returns-clause-isolated c = refl

pub returns-clause-inside : goal.returns-clause-inside
unfolding digits path
returns-clause-inside c = refl

pub returns-clause-child : goal.returns-clause-child
unfolding digits path
returns-clause-child c = refl

pub returns-clause-grandchild : goal.returns-clause-grandchild
unfolding digits path
returns-clause-grandchild c = refl
