use Rattle.iso_isolation.proofs.Stages.{same_results}
use Rattle.iso_isolation.proofs.laws.steps_may_stand_anywhere.Goals as goal

pub returns : goal.returns
returns g c = λ l x laws plan workers es fs h n. same_results l x plan laws workers es fs h n
