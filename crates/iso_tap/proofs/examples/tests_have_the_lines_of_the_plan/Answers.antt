use Rattle.std.proofs.Common.{refl}
use Rattle.std.specs.Fmt.{digits}
use Rattle.iso_plan.specs.Paths.{path}
use Rattle.iso_tap.proofs.examples.tests_have_the_lines_of_the_plan.Goals as goal

pub returns : goal.returns
unfolding digits path
returns c = refl
