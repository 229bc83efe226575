use Rattle.std.proofs.Common.{◌≡◌, ◌-◌, []}
use Rattle.iso_plan.specs.RowView.{tree_of}
use Rattle.iso_waits.specs.AllWaits.{waits_of_first}
use Rattle.iso_waits.specs.Sums.{AreSums}
use Rattle.iso_waits.proofs.all.all_waits.Given as goal

abbrev pub invariant-nodes : goal.invariant-nodes
invariant-nodes l = record {
  plan : l.waits.plan ≡ l.plan;
  bodies : l.waits.bodies ≡ l.times;
  sums : AreSums (tree_of l.plan) l.node [] l.sums.items;
  found : l.all.items ≡ waits_of_first (tree_of l.plan) l.plan.settings l.times (l.node - 1);
}
