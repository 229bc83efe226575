use Rattle.iso_model.proofs.Untouched.{block-untouched, finish-untouched, step-untouched}
use Rattle.iso_model.proofs.laws.block_changes_no_other_key.Goals as goal

pub returns-clause-block : goal.returns-clause-block
returns-clause-block c = λ r acts env m k locked. block-untouched r k locked acts env m

pub returns-clause-finish : goal.returns-clause-finish
returns-clause-finish c = λ r ps s k locked. finish-untouched r k locked ps s

pub returns-clause-step : goal.returns-clause-step
returns-clause-step c = λ r m k locked. step-untouched r k locked m
