use Rattle.std.proofs.Common.{◌≡◌, ◌≤◌}
use Rattle.iso_plan.specs.Paths.{path}
use Rattle.iso_plan.specs.RowView.{tree_of}
use Rattle.iso_why.specs.ModeReasons.{forced_by}
use Rattle.iso_why.proofs.why.forced_by.Given as goal

abbrev pub invariant-up : goal.invariant-up
invariant-up l =
    record {
      within : l.class ≤ l.fn.class;
      same : forced_by (tree_of l.plan) (path (tree_of l.plan) l.class) ≡ forced_by (tree_of l.plan) (path (tree_of l.plan) l.fn.class);
    }

abbrev pub decreases-up : goal.decreases-up
decreases-up l = l.class
