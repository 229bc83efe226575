use Rattle.std.proofs.Common.{refl}
use Rattle.std.specs.Fmt.{digits}
use Rattle.iso_plan.specs.Paths.{path}
use Rattle.iso_stats.proofs.examples.lines_that_dont_apply_are_left_out.Goals as goal

pub returns-clause-one : goal.returns-clause-one
unfolding digits path
returns-clause-one c = refl

pub returns-clause-root : goal.returns-clause-root
unfolding digits path
returns-clause-root c = refl
