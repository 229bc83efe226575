use Rattle.std.proofs.Common.{refl}
use Rattle.iso_plan.specs.Paths.{path}
use Rattle.iso_html.proofs.examples.takers_of_a_key_had_it.Goals as goal

pub returns-clause-takers : goal.returns-clause-takers
unfolding path
returns-clause-takers c = refl

pub returns-clause-usage : goal.returns-clause-usage
unfolding path
returns-clause-usage c = refl

pub returns-clause-another : goal.returns-clause-another
unfolding path
returns-clause-another c = refl
