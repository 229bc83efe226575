use Rattle.iso_progress.proofs.Answering.{accepts}
use Rattle.iso_progress.proofs.laws.run_is_never_stuck.Goals as goal

pub returns : goal.returns
returns g c = λ l x laws plan more workers s r unfinished. accepts l x plan laws more workers s r unfinished
