use Rattle.std.proofs.Common.{◌≡◌}
use Rattle.iso_stats.specs.Measures.{span_below}
use Rattle.iso_stats.proofs.measures.span.Given as goal

abbrev pub invariant-nodes : goal.invariant-nodes
invariant-nodes l = l.last ≡ span_below l.times l.node
