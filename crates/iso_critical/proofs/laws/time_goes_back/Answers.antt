use Rattle.iso_critical.proofs.LawLemmas.{goes-back}
use Rattle.iso_critical.proofs.laws.time_goes_back.Goals as goal

pub returns : goal.returns
returns c = goes-back
