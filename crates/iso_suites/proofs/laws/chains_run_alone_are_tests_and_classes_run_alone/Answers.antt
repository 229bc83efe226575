use Rattle.iso_suites.proofs.AloneRuns.{test-alone, class-alone}
use Rattle.iso_suites.proofs.laws.chains_run_alone_are_tests_and_classes_run_alone.Goals as goal

pub returns : goal.returns
returns c = record { test = test-alone; class = class-alone }
