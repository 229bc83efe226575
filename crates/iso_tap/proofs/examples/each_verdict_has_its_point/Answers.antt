use Rattle.std.proofs.Common.{refl}
use Rattle.std.specs.Fmt.{digits}
use Rattle.iso_plan.specs.Paths.{path}
use Rattle.iso_tap.proofs.examples.each_verdict_has_its_point.Goals as goal

pub returns : goal.returns
unfolding digits path
returns c = refl
