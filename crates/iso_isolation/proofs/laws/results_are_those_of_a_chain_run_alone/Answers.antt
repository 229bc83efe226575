use Rattle.iso_isolation.proofs.Rights.{isolation}
use Rattle.iso_isolation.proofs.laws.results_are_those_of_a_chain_run_alone.Goals as goal

pub returns : goal.returns
returns g c = λ l x laws plan. isolation l laws x plan
