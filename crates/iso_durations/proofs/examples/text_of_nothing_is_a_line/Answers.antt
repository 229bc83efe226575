use Rattle.std.proofs.Common.{refl}
use Rattle.iso_plan.specs.Paths.{path}
use Rattle.std.specs.Fmt.{digits}
use Rattle.iso_durations.proofs.examples.text_of_nothing_is_a_line.Goals as goal

pub returns : goal.returns
unfolding digits path
returns c = refl
