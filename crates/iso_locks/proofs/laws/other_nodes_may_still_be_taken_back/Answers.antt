use Rattle.iso_locks.proofs.StillLemmas.{back-home, back-lent}
use Rattle.iso_locks.proofs.laws.other_nodes_may_still_be_taken_back.Goals as goal

pub returns : goal.returns
returns c = record {
  lent = back-lent;
  home = back-home;
}
