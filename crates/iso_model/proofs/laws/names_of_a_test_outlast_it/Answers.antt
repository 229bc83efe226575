use Rattle.iso_model.proofs.SeenNames.{test-lasts, seen-own, seen-enclosing}
use Rattle.iso_model.proofs.laws.names_of_a_test_outlast_it.Goals as goal

pub returns-clause-lasting : goal.returns-clause-lasting
returns-clause-lasting c = test-lasts

pub returns-clause-seen : goal.returns-clause-seen
returns-clause-seen c = seen-own

pub returns-clause-seen_by_enclosing : goal.returns-clause-seen_by_enclosing
returns-clause-seen_by_enclosing c = seen-enclosing
