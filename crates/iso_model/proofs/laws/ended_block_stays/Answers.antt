use Rattle.iso_model.proofs.Ends.{step-ended, step-none}
use Rattle.iso_model.proofs.Finishing.{finish-ended, run-ended}
use Rattle.iso_model.proofs.laws.ended_block_stays.Goals as goal

pub returns-clause-step : goal.returns-clause-step
returns-clause-step c = step-ended

pub returns-clause-none_left : goal.returns-clause-none_left
returns-clause-none_left c = step-none

pub returns-clause-finish : goal.returns-clause-finish
returns-clause-finish c = finish-ended

pub returns-clause-run : goal.returns-clause-run
returns-clause-run c = run-ended
