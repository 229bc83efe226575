use Rattle.std.proofs.Common.{refl}
use Rattle.iso_plan.specs.Paths.{path}
use Rattle.std.specs.Fmt.{digits}
use Rattle.iso_github.proofs.examples.failures_are_told_in_their_order.Goals as goal

pub returns-clause-told : goal.returns-clause-told
unfolding digits path
returns-clause-told c = refl

pub returns-clause-none : goal.returns-clause-none
unfolding digits path
returns-clause-none c = refl
