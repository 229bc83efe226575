use Rattle.iso_junit.proofs.CountLemmas.{problems-counted, skipped-counted, tests-counted}
use Rattle.iso_junit.proofs.laws.document_counts_what_a_summary_counts.Goals as goal

pub returns-clause-tests : goal.returns-clause-tests
returns-clause-tests c r t = tests-counted r t

pub returns-clause-skipped : goal.returns-clause-skipped
returns-clause-skipped c r t = skipped-counted r t

pub returns-clause-problems : goal.returns-clause-problems
returns-clause-problems c r t = problems-counted r t
