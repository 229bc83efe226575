use Rattle.iso_waits.proofs.CoverLemmas.{within-told}
use Rattle.iso_waits.proofs.laws.single_waits_lie_within.Goals as goal

pub returns : goal.returns
returns c = within-told
