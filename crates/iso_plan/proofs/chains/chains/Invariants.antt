use Rattle.std.proofs.Common.{◌≡◌, map}
use Rattle.iso_plan.specs.NodeChains.{chain_classes}
use Rattle.iso_plan.specs.Paths.{column}
use Rattle.iso_plan.specs.RowView.{heads_in, row_of}
use Rattle.iso_plan.proofs.chains.chains.Given as goal

abbrev pub invariant-nodes : goal.invariant-nodes
invariant-nodes l = map heads_in l.chains.items ≡ column (chain_classes (map row_of l.rows)) l.n
