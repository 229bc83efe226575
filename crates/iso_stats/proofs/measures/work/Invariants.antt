use Rattle.std.proofs.Common.{◌≡◌}
use Rattle.iso_stats.specs.Measures.{work_below}
use Rattle.iso_stats.proofs.measures.work.Given as goal

abbrev pub invariant-nodes : goal.invariant-nodes
invariant-nodes l = l.sum ≡ work_below l.times l.node
