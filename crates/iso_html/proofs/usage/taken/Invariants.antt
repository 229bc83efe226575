use Rattle.std.proofs.Common.{◌≡◌, ◌<◌, ℕ, length}
use Rattle.iso_html.specs.KeyUses.{usage_at, usage_below}
use Rattle.iso_plan.specs.KeyTable.{keys}
use Rattle.iso_plan.specs.RowView.{tree_of}
use Rattle.iso_html.proofs.usage.taken.Given as goal

abbrev pub invariant-nodes : goal.invariant-nodes
invariant-nodes l = record {
  each : length l.usages.items ≡ length (keys (tree_of l.plan));
  below : (k : ℕ) → k < length (keys (tree_of l.plan)) → usage_at l.usages.items k ≡ usage_below (tree_of l.plan) l.times k l.node;
}
