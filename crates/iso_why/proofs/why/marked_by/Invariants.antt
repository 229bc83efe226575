use Rattle.std.proofs.Common.{◌≡◌, ◌≤◌}
use Rattle.iso_plan.specs.Paths.{path}
use Rattle.iso_plan.specs.RowView.{tree_of}
use Rattle.iso_why.specs.ModeReasons.{marked_by}
use Rattle.iso_why.proofs.why.marked_by.Given as goal

abbrev pub invariant-up : goal.invariant-up
invariant-up l =
    record {
      within : l.node ≤ l.fn.node;
      same : marked_by (tree_of l.plan) (path (tree_of l.plan) l.node) ≡ marked_by (tree_of l.plan) (path (tree_of l.plan) l.fn.node);
    }

abbrev pub decreases-up : goal.decreases-up
decreases-up l = l.node
