use Rattle.std.proofs.Common.{refl}
use Rattle.iso_plan.specs.Paths.{path}
use Rattle.std.specs.Fmt.{digits}
use Rattle.iso_github.proofs.examples.refused_script_is_an_error.Goals as goal

pub returns : goal.returns
unfolding digits path
returns c = refl
