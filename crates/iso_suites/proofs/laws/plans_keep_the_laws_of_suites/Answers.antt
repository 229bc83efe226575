use Rattle.iso_suites.proofs.Headline.{launched-laws}
use Rattle.iso_suites.proofs.laws.plans_keep_the_laws_of_suites.Goals as goal

pub returns : goal.returns
returns c = launched-laws
