use Rattle.iso_progress.proofs.Refusing.{stuck}
use Rattle.iso_progress.proofs.laws.state_without_candidate_is_stuck.Goals as goal

pub returns : goal.returns
returns g c = λ l x workers s none. stuck l x workers s none
