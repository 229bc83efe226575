use Rattle.iso_waits.proofs.TurnLemmas.{in-turn}
use Rattle.iso_waits.proofs.laws.waits_follow_one_another.Goals as goal

pub returns : goal.returns
returns c holder from until = in-turn holder from until
