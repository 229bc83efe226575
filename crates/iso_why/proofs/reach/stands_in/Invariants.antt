use Rattle.std.proofs.Common.{◌≡◌, ◌≤◌}
use Rattle.iso_plan.specs.Paths.{is_under}
use Rattle.iso_plan.specs.RowView.{tree_of}
use Rattle.iso_why.proofs.reach.stands_in.Given as goal

abbrev pub invariant-up : goal.invariant-up
invariant-up l =
    record {
      within : l.node ≤ l.fn.node;
      same : is_under (tree_of l.plan) l.other l.node ≡ is_under (tree_of l.plan) l.other l.fn.node;
    }

abbrev pub decreases-up : goal.decreases-up
decreases-up l = l.node
