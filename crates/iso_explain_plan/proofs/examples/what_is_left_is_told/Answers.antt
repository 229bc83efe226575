use Rattle.std.proofs.Common.{refl}
use Rattle.std.specs.Fmt.{digits}
use Rattle.iso_plan.specs.Paths.{path}
use Rattle.iso_explain_plan.proofs.examples.what_is_left_is_told.Goals as goal

pub returns : goal.returns
unfolding digits path
returns c = refl
