use Rattle.iso_isolation.proofs.Lists.{full_history}
use Rattle.iso_isolation.proofs.laws.history_in_full_has_only_steps_more.Goals as goal

pub returns : goal.returns
returns g c = λ l x s h clean. full_history l x h s clean
