use Rattle.std.proofs.Common.{refl}
use Rattle.iso_plan.specs.Paths.{path}
use Rattle.iso_critical.proofs.examples.workers_do_one_body_after_another.Goals as goal

pub returns-clause-same : goal.returns-clause-same
unfolding path
returns-clause-same c = refl

pub returns-clause-other : goal.returns-clause-other
unfolding path
returns-clause-other c = refl
