use Rattle.std.proofs.Common.{◌≡◌, ◌≤◌, ◌-◌}
use Rattle.iso_plan.specs.RowView.{tree_of}
use Rattle.iso_waits.specs.Waits.{highest, is_sibling}
use Rattle.iso_waits.proofs.ready.last_sibling.Given as goal

abbrev pub invariant-siblings : goal.invariant-siblings
invariant-siblings l = record {
  after : l.first ≤ l.at;
  within : l.at ≤ l.node;
  passed : highest (is_sibling (tree_of l.plan) l.plan.settings l.times l.node) l.at ≡ highest (is_sibling (tree_of l.plan) l.plan.settings l.times l.node) l.node;
}

abbrev pub decreases-siblings : goal.decreases-siblings
decreases-siblings l = l.at - l.first
