use Rattle.std.proofs.Common.{refl}
use Rattle.iso_plan.specs.Paths.{path}
use Rattle.iso_waits.proofs.examples.when_nodes_are_ready.Goals as goal

pub returns-clause-top : goal.returns-clause-top
unfolding path
returns-clause-top c = refl

pub returns-clause-open : goal.returns-clause-open
unfolding path
returns-clause-open c = refl

pub returns-clause-beside : goal.returns-clause-beside
unfolding path
returns-clause-beside c = refl

pub returns-clause-after : goal.returns-clause-after
unfolding path
returns-clause-after c = refl

pub returns-clause-sibling : goal.returns-clause-sibling
unfolding path
returns-clause-sibling c = refl

pub returns-clause-unmeasured : goal.returns-clause-unmeasured
unfolding path
returns-clause-unmeasured c = refl
