use Rattle.std.proofs.Common.{◌≡◌, take}
use Rattle.iso_plan.specs.KeyGroups.{lead_in}
use Rattle.iso_plan.specs.Paths.{column}
use Rattle.iso_plan.proofs.key_groups.leads.Given as goal

abbrev pub invariant-nodes : goal.invariant-nodes
invariant-nodes l = l.leads.items ≡ column (lead_in (take l.n l.locks)) l.keys
