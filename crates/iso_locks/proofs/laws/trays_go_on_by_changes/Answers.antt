use Rattle.iso_locks.proofs.LawLemmas.{on-change}
use Rattle.iso_locks.specs.Onward.{on-further, on-still}
use Rattle.iso_locks.proofs.laws.trays_go_on_by_changes.Goals as goal

pub returns : goal.returns
returns c = record {
  still = on-still;
  further = on-further;
  change = on-change;
}
