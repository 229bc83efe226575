use Rattle.iso_isolation.proofs.ExampleLaws.{counting_laws}
use Rattle.iso_progress.proofs.ExampleLaws.{mall_laws, mall_goes_on}
use Rattle.iso_progress.proofs.laws.laws_can_be_kept.Goals as goal

pub returns-clause-bodies : goal.returns-clause-bodies
returns-clause-bodies c = counting_laws

pub returns-clause-suite : goal.returns-clause-suite
returns-clause-suite c = mall_laws

pub returns-clause-progress : goal.returns-clause-progress
returns-clause-progress c = mall_goes_on
