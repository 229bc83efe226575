use Rattle.iso_model.proofs.ChainRuns.{tests-agree, classes-agree}
use Rattle.iso_model.proofs.laws.agreeing_chains_have_equal_outcomes.Goals as goal

pub returns-clause-test : goal.returns-clause-test
returns-clause-test c = tests-agree

pub returns-clause-class : goal.returns-clause-class
returns-clause-class c = classes-agree
