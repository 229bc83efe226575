use Rattle.iso_waits.proofs.HolderLemmas.{waits-for}
use Rattle.iso_waits.proofs.laws.waits_are_for_conflicting_nodes.Goals as goal

pub returns : goal.returns
returns c = waits-for
