use Rattle.std.proofs.Common.{refl}
use Rattle.iso_plan.specs.Paths.{path}
use Rattle.std.specs.Fmt.{digits}
use Rattle.iso_why.proofs.examples.tests_have_their_reasons.Goals as goal

pub returns : goal.returns
unfolding digits path
returns c = refl
