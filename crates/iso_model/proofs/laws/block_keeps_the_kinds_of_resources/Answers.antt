use Rattle.iso_model.proofs.Untouched.{block-kinds, finish-kinds, step-kinds}
use Rattle.iso_model.proofs.laws.block_keeps_the_kinds_of_resources.Goals as goal

pub returns-clause-block : goal.returns-clause-block
returns-clause-block c = λ r acts env m k. block-kinds r k acts env m

pub returns-clause-finish : goal.returns-clause-finish
returns-clause-finish c = λ r ps s k. finish-kinds r k ps s

pub returns-clause-step : goal.returns-clause-step
returns-clause-step c = λ r m k. step-kinds r k m
