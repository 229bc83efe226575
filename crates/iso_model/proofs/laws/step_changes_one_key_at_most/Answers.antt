use Rattle.iso_model.proofs.Untouched.{step-one}
use Rattle.iso_model.proofs.laws.step_changes_one_key_at_most.Goals as goal

pub returns : goal.returns
returns c = step-one
