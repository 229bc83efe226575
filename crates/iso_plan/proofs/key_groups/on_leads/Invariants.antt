use Rattle.std.proofs.Common.{◌≡◌, map, take}
use Rattle.iso_plan.specs.KeyGroups.{on_own}
use Rattle.iso_plan.proofs.key_groups.on_leads.Given as goal

abbrev pub invariant-nodes : goal.invariant-nodes
invariant-nodes l = l.lists.items ≡ map (on_own l.leads) (take l.n l.locks)
