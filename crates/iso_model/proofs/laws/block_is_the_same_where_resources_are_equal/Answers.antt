use Rattle.iso_model.proofs.ChainRuns.{block-alike}
use Rattle.iso_model.proofs.Pairs.{finish-alike, step-alike}
use Rattle.iso_model.proofs.laws.block_is_the_same_where_resources_are_equal.Goals as goal

pub returns-clause-block : goal.returns-clause-block
returns-clause-block c = block-alike

pub returns-clause-finish : goal.returns-clause-finish
returns-clause-finish c = finish-alike

pub returns-clause-step : goal.returns-clause-step
returns-clause-step c = step-alike
