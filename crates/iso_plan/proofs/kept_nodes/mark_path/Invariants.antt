use Rattle.std.proofs.Common.{◌≡◌, ◌<◌, ◌||◌, ℕ, false, get_or, length, map}
use Rattle.iso_plan.specs.Paths.{is_on, path}
use Rattle.iso_plan.specs.RowView.{row_of}
use Rattle.iso_plan.proofs.kept_nodes.mark_path.Given as goal

abbrev pub invariant-loop-at : goal.invariant-loop-at
invariant-loop-at l = record {
  within : l.at < length l.rows;
  each : length l.kept.items ≡ length l.rows;
  marked : (m : ℕ) → (is_on (path (map row_of l.rows) l.at) m || get_or l.kept.items m false) ≡ (is_on (path (map row_of l.rows) l.node) m || get_or l.initial.kept.items m false);
}

abbrev pub decreases-loop-at : goal.decreases-loop-at
decreases-loop-at l = l.at
