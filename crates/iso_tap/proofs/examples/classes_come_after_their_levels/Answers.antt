use Rattle.std.proofs.Common.{refl}
use Rattle.std.specs.Fmt.{digits}
use Rattle.iso_plan.specs.Paths.{path}
use Rattle.iso_tap.proofs.examples.classes_come_after_their_levels.Goals as goal

pub returns : goal.returns
unfolding digits path
returns c = refl
