use Rattle.std.proofs.Common.{◌≡◌, ◌<◌, length, drop}
use Rattle.iso_plan.specs.Paths.{path}
use Rattle.iso_places.proofs.end.node_at_depth.Given as goal

abbrev pub invariant-levels : goal.invariant-levels
invariant-levels l = record {
  within : l.at < length l.plan.rows;
  same : path l.plan.rows l.at ≡ drop l._level (path l.plan.rows l.node);
}
