use Rattle.std.proofs.Common.{length}
use Rattle.iso_failures.proofs.CountLemmas.{tests-of-four}
use Rattle.iso_failures.proofs.laws.each_test_came_to_one_of_four.Goals as goal

pub returns : goal.returns
returns c = λ tree outcome. tests-of-four tree outcome (length tree)
