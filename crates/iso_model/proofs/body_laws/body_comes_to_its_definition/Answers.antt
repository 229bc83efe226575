use Rattle.iso_model.proofs.BodyRuns.{test-finish, opening-finish, opening-frame, closing-finish}
use Rattle.iso_model.proofs.body_laws.body_comes_to_its_definition.Goals as goal

pub returns-clause-test : goal.returns-clause-test
returns-clause-test c = test-finish

pub returns-clause-before_all : goal.returns-clause-before_all
returns-clause-before_all c = opening-finish

pub returns-clause-frame : goal.returns-clause-frame
returns-clause-frame c = opening-frame

pub returns-clause-after_all : goal.returns-clause-after_all
returns-clause-after_all c = closing-finish
