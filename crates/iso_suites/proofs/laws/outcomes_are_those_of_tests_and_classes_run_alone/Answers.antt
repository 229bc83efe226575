use Rattle.iso_suites.proofs.Headline.{tests-isolated, classes-isolated}
use Rattle.iso_suites.proofs.laws.outcomes_are_those_of_tests_and_classes_run_alone.Goals as goal

pub returns : goal.returns
returns c = record { tests = tests-isolated; classes = classes-isolated }
