use Rattle.iso_model.proofs.ChainRuns.{test_from-restricted, class_from-restricted}
use Rattle.iso_model.proofs.laws.outcome_uses_declared_keys_alone.Goals as goal

pub returns-clause-test : goal.returns-clause-test
returns-clause-test c = test_from-restricted

pub returns-clause-class : goal.returns-clause-class
returns-clause-class c = class_from-restricted
