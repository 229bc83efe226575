use Rattle.std.proofs.Common.{◌≡◌, ◌+◌, ◌<◌, ◌≤◌, length}
use Rattle.iso_plan.specs.Paths.{path}
use Rattle.iso_affected_text.proofs.spots.depth_of.Given as goal

abbrev pub invariant-up : goal.invariant-up
invariant-up l = record {
  within : l.at < length l.plan.rows;
  small : l.depth + l.at ≤ l.node;
  same : l.depth + length (path l.plan.rows l.at) ≡ length (path l.plan.rows l.node);
}

abbrev pub decreases-up : goal.decreases-up
decreases-up l = l.at
