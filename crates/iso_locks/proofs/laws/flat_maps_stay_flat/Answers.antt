use Rattle.iso_locks.proofs.FlatLemmas.{flat-onward, flat-undone}
use Rattle.iso_locks.proofs.laws.flat_maps_stay_flat.Goals as goal

pub returns : goal.returns
returns c = record {
  changes = flat-onward;
  marks = flat-undone;
}
