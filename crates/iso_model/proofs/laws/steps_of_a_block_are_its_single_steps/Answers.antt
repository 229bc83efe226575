use Rattle.iso_model.proofs.LawLemmas.{ends_counted, none_sooner, block-counted}
use Rattle.iso_model.proofs.laws.steps_of_a_block_are_its_single_steps.Goals as goal

pub returns-clause-last : goal.returns-clause-last
returns-clause-last c = ends_counted

pub returns-clause-none_sooner : goal.returns-clause-none_sooner
returns-clause-none_sooner c = none_sooner

pub returns-clause-block : goal.returns-clause-block
returns-clause-block c = block-counted
