use Rattle.std.proofs.Common.{◌≡◌}
use Rattle.iso_critical.specs.Needs.{last_holder}
use Rattle.iso_plan.specs.Paths.{column}
use Rattle.iso_critical.proofs.holders.last_holders.Given as goal

abbrev pub invariant-nodes : goal.invariant-nodes
invariant-nodes l = l.holders.items ≡ column (last_holder l.waits) l.node
