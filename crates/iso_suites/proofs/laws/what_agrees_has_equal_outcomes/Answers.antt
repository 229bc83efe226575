use Rattle.iso_suites.proofs.Headline.{tests-unaffected, classes-unaffected}
use Rattle.iso_suites.proofs.laws.what_agrees_has_equal_outcomes.Goals as goal

pub returns : goal.returns
returns c = record { tests = tests-unaffected; classes = classes-unaffected }
