use Rattle.iso_locks.proofs.FlatLemmas.{back}
use Rattle.iso_locks.proofs.laws.flat_maps_go_back_to_marks.Goals as goal

pub returns : goal.returns
returns c = back
