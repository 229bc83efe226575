use Rattle.std.proofs.Common.{◌≡◌, ◌++◌, map, take}
use Rattle.json.specs.Print.{quoted}
use Rattle.iso_plan.specs.KeyTable.{keys}
use Rattle.iso_plan.specs.RowView.{tree_of}
use Rattle.iso_trace.proofs.names.key_names.Given as goal

abbrev pub invariant-keys : goal.invariant-keys
invariant-keys l = l.names.items ≡ map (λ k. quoted (l.before ++ k)) (take l.number (keys (tree_of l.plan)))
