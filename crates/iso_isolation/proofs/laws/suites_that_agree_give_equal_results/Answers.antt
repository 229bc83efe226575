use Rattle.iso_isolation.proofs.Rights.{unaffected}
use Rattle.iso_isolation.proofs.laws.suites_that_agree_give_equal_results.Goals as goal

pub returns : goal.returns
returns g c = λ l x y laws plan_x plan_y. unaffected l laws x y plan_x plan_y
