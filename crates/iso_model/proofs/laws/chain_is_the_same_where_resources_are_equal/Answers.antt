use Rattle.iso_model.proofs.ChainRuns.{opening-alike, before_all-alike, after_all-alike, test-alike}
use Rattle.iso_model.proofs.laws.chain_is_the_same_where_resources_are_equal.Goals as goal

pub returns-clause-opening : goal.returns-clause-opening
returns-clause-opening c = λ r cs m n within same. opening-alike r cs within m n same

pub returns-clause-before_all : goal.returns-clause-before_all
returns-clause-before_all c = λ r d cs o p within both. before_all-alike r d cs within o p both

pub returns-clause-after_all : goal.returns-clause-after_all
returns-clause-after_all c = λ r d cs o p within both. after_all-alike r d cs within o p both

pub returns-clause-test : goal.returns-clause-test
returns-clause-test c = test-alike
