use Rattle.iso_junit.proofs.SumLemmas.{sums-up}
use Rattle.iso_junit.proofs.laws.testsuites_sum_up_to_the_document.Goals as goal

pub returns : goal.returns
returns c r t inside such = sums-up r such t inside
