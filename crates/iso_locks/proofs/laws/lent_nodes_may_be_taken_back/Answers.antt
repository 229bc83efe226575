use Rattle.iso_locks.proofs.VaultLemmas.{taken-as-lent}
use Rattle.iso_locks.proofs.laws.lent_nodes_may_be_taken_back.Goals as goal

pub returns : goal.returns
returns c = taken-as-lent
