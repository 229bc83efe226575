use Rattle.iso_model.proofs.Ends.{step-used, step-out}
use Rattle.iso_model.proofs.laws.step_uses_one_step_or_ends_the_block.Goals as goal

pub returns-clause-used : goal.returns-clause-used
returns-clause-used c = step-used

pub returns-clause-ended : goal.returns-clause-ended
returns-clause-ended c = step-out
