use Rattle.std.proofs.Common.{refl}
use Rattle.iso_plan.specs.Paths.{path}
use Rattle.std.specs.Fmt.{digits}
use Rattle.iso_durations.proofs.examples.text_tells_of_the_slowest.Goals as goal

pub returns : goal.returns
unfolding digits path
returns c = refl
