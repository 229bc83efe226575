use Rattle.std.proofs.Common.{refl}
use Rattle.iso_plan.specs.Paths.{path}
use Rattle.iso_critical.proofs.examples.ends_may_be_equal.Goals as goal

pub returns : goal.returns
unfolding path
returns c = refl
