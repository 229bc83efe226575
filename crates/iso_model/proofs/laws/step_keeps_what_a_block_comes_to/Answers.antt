use Rattle.iso_model.proofs.Finishing.{finish-step}
use Rattle.iso_model.proofs.LawLemmas.{block-finished}
use Rattle.iso_model.proofs.laws.step_keeps_what_a_block_comes_to.Goals as goal

pub returns-clause-step : goal.returns-clause-step
returns-clause-step c = finish-step

pub returns-clause-block : goal.returns-clause-block
returns-clause-block c = block-finished
