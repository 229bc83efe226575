use Rattle.iso_waits.proofs.HolderLemmas.{contended-is}
use Rattle.iso_waits.proofs.laws.nodes_conflict_on_a_key.Goals as goal

pub returns : goal.returns
returns c = contended-is
