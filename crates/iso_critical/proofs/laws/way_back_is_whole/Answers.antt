use Rattle.iso_critical.proofs.LawLemmas.{whole}
use Rattle.iso_critical.proofs.laws.way_back_is_whole.Goals as goal

pub returns : goal.returns
returns c = whole
