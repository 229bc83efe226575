use Rattle.std.proofs.Common.{◌≡◌, map, take}
use Rattle.iso_locks.specs.Trays.{start_at}
use Rattle.iso_plan.specs.KeyTable.{keys}
use Rattle.iso_plan.specs.RowView.{tree_of}
use Rattle.iso_locks.proofs.starting.starts_of.Given as goal

abbrev pub invariant-keys : goal.invariant-keys
invariant-keys l = l.starts.items ≡ map (start_at l.world) (take l.number (keys (tree_of l.plan)))
