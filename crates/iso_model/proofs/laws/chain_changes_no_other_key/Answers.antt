use Rattle.iso_model.proofs.ChainRuns.{opening-untouched, before_all-untouched, after_all-untouched, test-untouched}
use Rattle.iso_model.proofs.laws.chain_changes_no_other_key.Goals as goal

pub returns-clause-opening : goal.returns-clause-opening
returns-clause-opening c = λ cs start k locked. opening-untouched k cs start locked

pub returns-clause-before_all : goal.returns-clause-before_all
returns-clause-before_all c = λ d cs o k locked. before_all-untouched k d cs o locked

pub returns-clause-after_all : goal.returns-clause-after_all
returns-clause-after_all c = λ d cs o k locked. after_all-untouched k d cs o locked

pub returns-clause-test : goal.returns-clause-test
returns-clause-test c = λ t cs o k locked. test-untouched k t cs o locked
