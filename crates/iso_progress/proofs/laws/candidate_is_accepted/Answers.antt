use Rattle.iso_progress.proofs.Answering.{answered}
use Rattle.iso_progress.proofs.laws.candidate_is_accepted.Goals as goal

pub returns : goal.returns
returns g c = λ l x laws plan more workers s r. answered l x plan laws more workers s r
