use Rattle.std.proofs.Common.{refl}
use Rattle.iso_plan.specs.Paths.{path}
use Rattle.iso_critical.proofs.examples.classes_close_after_all_in_them.Goals as goal

pub returns : goal.returns
unfolding path
returns c = refl
