use Rattle.std.proofs.Common.{◌≡◌, ◌<◌, ◌≤◌, ◌+◌, ℕ, cond, get_or, length}
use Rattle.iso_plan.specs.Paths.{is_under}
use Rattle.iso_plan.specs.RowView.{tree_of}
use Rattle.iso_conflicts.proofs.tests.count_up.Given as goal

abbrev pub invariant-up : goal.invariant-up
invariant-up l =
    record {
      within : l.node ≤ l.test;
      each : length l.counts.items ≡ length l.plan.rows;
      left : (m : ℕ) → get_or l.counts.items m 0 + cond (is_under (tree_of l.plan) m l.node) 1 0
          ≡ get_or l.fn.counts.items m 0 + cond (is_under (tree_of l.plan) m l.test) 1 0;
    }

abbrev pub decreases-up : goal.decreases-up
decreases-up l = l.node
